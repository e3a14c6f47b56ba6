-- `narrowed`: by whether the event restarts.
use Rattle.narrowed.specs.Narrowed.{narrowed_anew, narrowed_on}
use Rattle.narrowed.proofs.narrowed.Goals as goal

pub returns-then-event : goal.returns-then-event
returns-then-event c =
    narrowed_anew _ _ _ _ _ c.agreeing-agree.ensures c.if-event.true c.join-both.ensures c.split.ensures c.split-then-event.ensures

pub returns : goal.returns
returns c = narrowed_on _ _ _ _ _ c.agreeing-agree.ensures c.if-event.false c.kept.ensures
