-- `contents::enter_event` meets its contract: the event goes to its row and its ties to theirs, and whether it breaks a rule by itself is told.
use Rattle.contents.specs.Contents.{IdentitySmall}
use Rattle.contents.proofs.Contents.{entered_broken, entered_good}
use Rattle.contents.proofs.enter_event.Goals as goal

pub put_identity-requires : goal.put_identity-requires
unfolding IdentitySmall
put_identity-requires c =
    record {
      k_in_bounds = c.requires.k_in_bounds_2;
      link_small = c.requires.identity_small _;
    }

pub returns-then-broken : goal.returns-then-broken
returns-then-broken c = entered_broken _ _ _ _ c.put_event.ensures c.put_identity.ensures c.breaks_alone-broken.ensures c.if-broken.true

pub returns : goal.returns
returns c = entered_good _ _ _ _ c.put_event.ensures c.put_identity.ensures c.breaks_alone-broken.ensures c.if-broken.false
