-- The two calls on scraps have no choice: two results that a contract allows are equal, and so are the bytes left in what was lent. Said of the contracts themselves, as in
-- promises/proofs/OneAnswer: `Learnt` is what the kit reads from the `ensures` of a call, x are its arguments, r its result, and u the lent things at exit.
use Rattle.std.specs.Prelude.{◌≡◌}
use Rattle.std.proofs.Common.{sym, ◌∙◌}
use Rattle.scraps.proofs.take.Reads as take
use Rattle.scraps.proofs.finish.Reads as finish

-- the answer and the radio, and the buffer that verdicts are written into
pub take_one : (κs : _) (x : _) (r r' : _) (u u' : _) → take.Learnt κs x r u → take.Learnt κs x r' u' → (r ≡ r') × (u.1.1.1.1.1.1.1.1.0.now ≡ u'.1.1.1.1.1.1.1.1.0.now)
take_one κs x r r' u u' e e' = (e.0 ∙ sym e'.0, e.1 ∙ sym e'.1)

pub finish_one : (κs : _) (x : _) (r r' : _) (u u' : _) → finish.Learnt κs x r u → finish.Learnt κs x r' u' → r ≡ r'
finish_one κs x r r' u u' e e' = e ∙ sym e'
