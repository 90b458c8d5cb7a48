-- `contents::walks::read_components` meets its contract: a value at fault decides, then the second walk.
use Rattle.contents.proofs.WalksLaws.{contents_told, tells_value, tells_rule, tells_passed}
use Rattle.contents.proofs.walks.read_components.Goals as goal

pub returns-in_err-read : goal.returns-in_err-read
returns-in_err-read c = tells_value c.read_contents.ensures _ c.in_err-read.was c.from_residual.ensures.1

pub rule_fault-rules-requires : goal.rule_fault-rules-requires
rule_fault-rules-requires c =
    let read = contents_told c.read_contents.ensures _ c.in_ok-read.was in
    record {
      file_rows = c.requires.file_rows;
      context_good = c.requires.context_good;
      link_rows = read.links_are;
      alone_value = read.rules_are;
    }

pub returns-in_err-fault_by : goal.returns-in_err-fault_by
returns-in_err-fault_by c =
    let read = contents_told c.read_contents.ensures _ c.in_ok-read.was in
    tells_rule read c.rule_fault-rules.ensures c.fault_by.ensures _ c.in_err-fault_by.was c.from_residual-in_err-fault_by.ensures.1

pub returns : goal.returns
returns c =
    let read = contents_told c.read_contents.ensures _ c.in_ok-read.was in
    tells_passed read c.rule_fault-rules.ensures c.fault_by.ensures c.requires.context_good c.requires.file_rows c.in_ok-fault_by.was
