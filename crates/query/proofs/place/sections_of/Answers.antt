-- `query::place::sections_of` meets its contract: each way out is one case of the definition, and a section that fits has its count inside.
use Rattle.query.proofs.SectionsLaws.{no_first, no_second, no_third, no_fourth, no_fifth, all_five, records_inside, texts_inside}
use mathlib.Core.Path.{sym, ◌∙◌}
use Rattle.query.proofs.place.sections_of.Goals as goal

pub returns-in_err-t : goal.returns-in_err-t
returns-in_err-t c = c.from_residual.ensures ∙ sym (no_first _ (sym c.behind_records.ensures ∙ c.in_err-t.was))

pub returns-in_err-c : goal.returns-in_err-c
returns-in_err-c c =
    c.from_residual-in_err-c.ensures
    ∙ sym (no_second _ (sym c.behind_records.ensures ∙ c.in_ok-t.was) (sym c.behind_text_section.ensures ∙ c.in_err-c.was))

pub returns-in_err-p : goal.returns-in_err-p
returns-in_err-p c =
    c.from_residual-in_err-p.ensures
    ∙ sym (no_third _ (sym c.behind_records.ensures ∙ c.in_ok-t.was) (sym c.behind_text_section.ensures ∙ c.in_ok-c.was) (sym c.behind_records-2.ensures ∙ c.in_err-p.was))

pub returns-in_err-q : goal.returns-in_err-q
returns-in_err-q c =
    c.from_residual-in_err-q.ensures
    ∙ sym (no_fourth _ (sym c.behind_records.ensures ∙ c.in_ok-t.was) (sym c.behind_text_section.ensures ∙ c.in_ok-c.was) (sym c.behind_records-2.ensures ∙ c.in_ok-p.was) (sym c.behind_records-3.ensures ∙ c.in_err-q.was))

pub returns-in_err-e : goal.returns-in_err-e
returns-in_err-e c =
    let none = sym c.behind_records-4.ensures ∙ c.in_err-e.was in
    c.from_residual-in_err-e.ensures
    ∙ sym (no_fifth _ (sym c.behind_records.ensures ∙ c.in_ok-t.was) (sym c.behind_text_section.ensures ∙ c.in_ok-c.was) (sym c.behind_records-2.ensures ∙ c.in_ok-p.was) (sym c.behind_records-3.ensures ∙ c.in_ok-q.was) none)

pub section_at-requires : goal.section_at-requires
section_at-requires c = records_inside _ _ _ _ _ (sym c.behind_records.ensures ∙ c.in_ok-t.was)

pub section_at-requires-2 : goal.section_at-requires-2
section_at-requires-2 c = texts_inside _ _ (sym c.behind_text_section.ensures ∙ c.in_ok-c.was)

pub section_at-requires-3 : goal.section_at-requires-3
section_at-requires-3 c = records_inside _ _ _ _ _ (sym c.behind_records-2.ensures ∙ c.in_ok-p.was)

pub section_at-requires-4 : goal.section_at-requires-4
section_at-requires-4 c = records_inside _ _ _ _ _ (sym c.behind_records-3.ensures ∙ c.in_ok-q.was)

pub section_at-requires-5 : goal.section_at-requires-5
section_at-requires-5 c = records_inside _ _ _ _ _ (sym c.behind_records-4.ensures ∙ c.in_ok-e.was)

pub returns : goal.returns
returns c =
    all_five _ (sym c.behind_records.ensures ∙ c.in_ok-t.was) (sym c.behind_text_section.ensures ∙ c.in_ok-c.was) (sym c.behind_records-2.ensures ∙ c.in_ok-p.was) (sym c.behind_records-3.ensures ∙ c.in_ok-q.was) (sym c.behind_records-4.ensures ∙ c.in_ok-e.was)
    c.section_at.ensures c.section_at-2.ensures c.section_at-3.ensures
    c.section_at-4.ensures c.section_at-5.ensures
