-- `nearest::onward`: a word at a time, and none beyond count.
use Rattle.std.proofs.Common.{rules, ◌≡◌, ◌∙◌, ℕ, Bool, true, false, refl, sym, ltb, ◌%◌, ◌/◌, bit_and, get_or, lt-ltb}
use lib.Bits.{and_zero_r}
use Rattle.words.specs.Word.{only_of}
use Rattle.words.specs.Lists.{words_at, words_ext, length_words}
use Rattle.words.proofs.Made.{words_made}
use Rattle.leads.specs.Halves.{from_in, to_in}
use Rattle.nearest.specs.Graph.{onward_at, onward_of}
use Rattle.nearest.proofs.onward.Goals as goal

masked : (b : Bool) (x y : ℕ) → bit_and x (only_of b y) ≡ only_of b (bit_and x y)
masked true x y = refl
masked false x y = and_zero_r x

pub returns : goal.returns
unfolding onward_of
returns c =
    let a = c.args in
    let at : ℕ → ℕ = λ w. onward_at a.next.now (from_in a.leave.now) (to_in a.enter.now) (a.x % 64) (a.x / 64) w in
    let to : ℕ → ℕ = λ w. bit_and (get_or a.set.now w 0) (only_of (ltb w a.count) (at w)) in
    words_made _ _ to (λ k y q call. search rules) _ c.from_fn.ensures.items
    ∙ words_ext _ _ (length_words 64 _) (length_words a.count _) (λ w l. words_at 64 to w l ∙ rw (lt-ltb w 64 l) (masked (ltb w a.count) (get_or a.set.now w 0) (at w)) ∙ sym (words_at a.count _ w l))
