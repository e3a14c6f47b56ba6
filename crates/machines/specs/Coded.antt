-- The same steps where states are written another way, as monitors are in words: what is made of the one is made of the other.
use Rattle.std.specs.Prelude.{ℕ, ◌<◌, ◌≡◌, refl, List}
use Rattle.std.proofs.Common.{sym, ap, ◌∙◌}
use Rattle.machines.specs.Machine.{Machine, Columns, none, more}
use Rattle.machines.specs.Explored.{MoreThan}
use Rattle.machines.specs.Follow.{stepped}
use Rattle.machines.specs.Made.{Made}

module _ {S R : Type 0} (c : ℕ) (step : S → ℕ → S) (answer : S → ℕ) (first : S) (other : R → ℕ → R) (tells : R → ℕ) (begin : R) (code : R → S) (Good : R → Type 0) where
  -- the opening and each step are coded, and codes tell states apart; all this of the states that are reached
  pub record Coded : Type 0 where
    pub good : Good begin
    pub opens : first ≡ code begin
    pub stays : (x : R) (k : ℕ) → k < c → Good x → Good (other x k)
    pub steps : (x : R) (k : ℕ) → k < c → Good x → step (code x) k ≡ code (other x k)
    pub answers : (x : R) → Good x → answer (code x) ≡ tells x
    pub back : (x y : R) → Good x → Good y → code x ≡ code y → x ≡ y

  module _ (coded : Coded) where
    -- the state after a word, either way
    stepped_code : {w : List ℕ} → Columns c w → (x : R) → Good x → (stepped step (code x) w ≡ code (stepped other x w)) × Good (stepped other x w)
    unfolding stepped
    stepped_code none x g = (refl, g)
    stepped_code (more {k} {w} l h) x g =
        let (e, d) = stepped_code h (other x k) (coded.stays x k l g) in
        (ap (λ (s : S). stepped step s w) (coded.steps x k l g) ∙ e, d)

    after : {w : List ℕ} → Columns c w → stepped step first w ≡ code (stepped other begin w)
    after {w} h = ap (λ (s : S). stepped step s w) coded.opens ∙ (stepped_code h begin coded.good).0

    reached : {w : List ℕ} → Columns c w → Good (stepped other begin w)
    reached h = (stepped_code h begin coded.good).1

    -- a machine that is made of the one is made of the other
    pub coded_made : {m : Machine} → Made c step answer first m → Made c other tells begin m
    coded_made made = record { canonical = made.canonical; agrees = λ w h. made.agrees w h ∙ ap answer (after h) ∙ coded.answers (stepped other begin w) (reached h) }

    -- and as many states are reached
    pub coded_more : {bound : ℕ} → MoreThan c step first bound → MoreThan c other begin bound
    coded_more many = record {
      word = many.word;
      good = many.good;
      apart = λ i j l h e. many.apart i j l h (after (many.good i l) ∙ ap code e ∙ sym (after (many.good j h)));
    }

    pub coded_back : {bound : ℕ} → MoreThan c other begin bound → MoreThan c step first bound
    coded_back many = record {
      word = many.word;
      good = many.good;
      apart = λ i j l h e. many.apart i j l h
          (coded.back (stepped other begin (many.word i)) (stepped other begin (many.word j)) (reached (many.good i l)) (reached (many.good j h))
          (sym (after (many.good i l)) ∙ e ∙ after (many.good j h)));
    }
