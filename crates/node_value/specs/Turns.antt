-- What one more turn of a loop makes of a test of each, and of a test of any; and tests by what their negations showed.
use Rattle.std.specs.Prelude.{ℕ, ◌+◌, ◌≡◌, Bool, true, false, ◌&&◌, ◌||◌, not}
use Rattle.std.proofs.Common.{sym, ◌∙◌, add-one}
use Rattle.std.proofs.lemmas.Bool.{not-true, not-false}
use Rattle.words.specs.Below.{any_below, all_below}

pub all_turn : (n : ℕ) (P : ℕ → Bool) (good now : Bool) → good ≡ all_below n P → now ≡ P n → (good && now) ≡ all_below (n + 1) P
unfolding all_below
all_turn n P good now e h = rw (add-one, e, h)

pub any_turn : (n : ℕ) (P : ℕ → Bool) (met now : Bool) → met ≡ any_below n P → now ≡ P n → (met || now) ≡ any_below (n + 1) P
unfolding any_below
any_turn n P met now e h = rw (add-one, e, h)

pub passed : (r a : Bool) → r ≡ a → not r ≡ false → a ≡ true
passed r a e h = sym e ∙ not-false r h

pub failed : (r a : Bool) → r ≡ a → not r ≡ true → a ≡ false
failed r a e h = sym e ∙ not-true r h
