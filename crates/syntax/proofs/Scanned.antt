-- The scanner takes exactly the texts of the grammar, and is stuck exactly where what was read begins no text.
use Prim.{Unit}
use Prim.Native.Nat.{ℕ, zero, suc, ◌+◌, ◌<◌}
use mathlib.Core.Path.{◌≡◌, refl, ap}
use mathlib.Core.Bool.{Bool, true, false, cond, false≢true}
use native.Mathlib.Omega.{arith}
use lib.Dec.{ltb, eqb}
use borrow.Author.Tests.{eqb-true, ltb-true}
use mathlib.Core.List.{List, [], ◌∷◌, ◌++◌, append_assoc, append-nil}
use native.Mathlib.Numerals.{add-one}
use Rattle.meaning.specs.Formula.{Formula}
use Rattle.syntax.specs.declared.Op.{Op}
use Rattle.syntax.specs.declared.Token.{Token}
use Rattle.syntax.specs.declared.Token.TheVariants.{Leaf, Prefix, Infix}
use Rattle.syntax.specs.declared.Sign.{Sign}
use Rattle.syntax.specs.declared.Sign.TheVariants.{Blank, Digit, Letter, Before, Between, Dash, Angle, Left, Right, Other}
use Rattle.syntax.specs.declared.Mode.{Mode}
use Rattle.syntax.specs.declared.Mode.TheVariants.{Operand, Number, Teen, Operator, Arrow, Stuck}
use Rattle.syntax.specs.declared.Move.TheVariants.{ToTeen, ToOperator, Stops}
use Rattle.syntax.specs.declared.State.{State}
use Rattle.syntax.specs.Grammar.{names, spell, Spelt, sp_false, sp_true, sp_prop, sp_not, sp_next, sp_finally, sp_globally, sp_until, sp_release, sp_and, sp_or, sp_arrow, sp_open, sp_close, Spells, end, space, token, Level, Side, Atom, is_false, is_true, is_prop, Unary, is_not, is_next_lem, is_finally, is_globally, Binary, is_implies, is_or, is_and, is_until, is_release, SaidBy}
use Rattle.syntax.specs.Bytes.{sign_of}
use Rattle.syntax.specs.Scan.{at, lone, closes, operand, named, digit, teen, operator, angle, moved, step, run, start, ends}
use Rattle.syntax.proofs.Lexing.{Byte, byte_of, spelt_one, spelt_two}
use Rattle.syntax.proofs.Build.{Has, Wants, wants_start, wants_prefix, wants_open, wants_infix, has_leaf, has_close}

-- a space, and a token, at the end of a text
spells_space : {ts : List Token} {p : List ℕ} → Spells ts p → Spells ts (p ++ 32 ∷ [])
spells_space end = space end
spells_space (space r) = space (spells_space r)
spells_space (token t r) = rw append_assoc (token t (spells_space r))

spells_token : {ts : List Token} {p : List ℕ} → Spells ts p → {t : Token} {b : List ℕ} → Spelt t b → Spells (ts ++ t ∷ []) (p ++ b)
spells_token end {b = b} t = rw (append-nil b) at (token t end)
spells_token (space r) t = space (spells_token r t)
spells_token (token u r) t = rw append_assoc (token u (spells_token r t))

-- what the scanner has read: tokens after which an operand is wanted, or that are whole
record Wanting (d : ℕ) (p : List ℕ) : Type 0 where
  tokens : List Token
  spells : Spells tokens p
  wants : Wants d tokens

record Having (d : ℕ) (p : List ℕ) : Type 0 where
  tokens : List Token
  spells : Spells tokens p
  has : Has d tokens

abbrev Seen : Mode → ℕ → List ℕ → Type 0
Seen Operand d p = Wanting d p
Seen Number d p = (q : List ℕ) × (p ≡ q ++ 112 ∷ []) × Wanting d q
Seen Teen d p = (q : List ℕ) × (p ≡ q ++ 112 ∷ 49 ∷ []) × Wanting d q
Seen Operator d p = Having d p
Seen Arrow d p = (q : List ℕ) × (p ≡ q ++ 45 ∷ []) × Having d q
Seen Stuck d p = Unit {0}

-- which operator a token is
prefix_is : {o : Op} {b : List ℕ} → Spelt (Prefix o) b → (u : Formula → Formula) × Unary o u
prefix_is sp_not = (_, is_not)
prefix_is sp_next = (_, is_next_lem)
prefix_is sp_finally = (_, is_finally)
prefix_is sp_globally = (_, is_globally)

record Joins (o : Op) : Type 0 where
  level : Level
  side : Side
  join : Formula → Formula → Formula
  binary : Binary level side o join

infix_is : {o : Op} {b : List ℕ} → Spelt (Infix o) b → Joins o
infix_is sp_until = record { level = _; side = _; join = _; binary = is_until }
infix_is sp_release = record { level = _; side = _; join = _; binary = is_release }
infix_is sp_and = record { level = _; side = _; join = _; binary = is_and }
infix_is sp_or = record { level = _; side = _; join = _; binary = is_or }
infix_is sp_arrow = record { level = _; side = _; join = _; binary = is_implies }

-- one token more
with_leaf : {d : ℕ} {p b : List ℕ} {o : Op} {f : Formula} → Wanting d p → Spelt (Leaf o) b → Atom o f → Having d (p ++ b)
with_leaf {d} w t a = record { tokens = _; spells = spells_token w.spells t; has = has_leaf d w.tokens a w.wants }

with_infix : {d : ℕ} {p b : List ℕ} {o : Op} → Having d p → Spelt (Infix o) b → Wanting d (p ++ b)
with_infix {d} h t = record { tokens = _; spells = spells_token h.spells t; wants = wants_infix d h.tokens (infix_is t).binary h.has }

module _ (d : ℕ) (p : List ℕ) (b : ℕ) where
  lone_digit_lem : (k : ℕ) → b ≡ 48 + k → Wanting d p → Seen (moved d (lone k)).mode (moved d (lone k)).depth (p ++ b ∷ [])
  lone_digit_lem zero e w = rw e (with_leaf w sp_false is_false)
  lone_digit_lem (suc zero) e w = rw e (with_leaf w sp_true is_true)
  lone_digit_lem (suc (suc k)) e w = tt

  after_operand : (k : Sign) → Byte k b → Wanting d p → Seen (moved d (operand k)).mode (moved d (operand k)).depth (p ++ b ∷ [])
  after_operand Blank e w = rw e (record { tokens = w.tokens; spells = spells_space w.spells; wants = w.wants })
  after_operand (Digit k) e w = lone_digit_lem k e.0 w
  after_operand Letter e w = (p, ap (λ x. p ++ x ∷ []) e, w)
  after_operand (Before o) e w = record { tokens = _; spells = spells_token w.spells e; wants = wants_prefix d w.tokens (prefix_is e).1 w.wants }
  after_operand (Between o) e w = tt
  after_operand Dash e w = tt
  after_operand Angle e w = tt
  after_operand Left e w = rw (e, add-one) (record { tokens = _; spells = spells_token w.spells sp_open; wants = wants_open d w.tokens w.wants })
  after_operand Right e w = tt
  after_operand Other e w = tt

  first_digit_lem : (k : ℕ) → b ≡ 48 + k → k < 10 → Seen Number d p → (x : Bool) → eqb k 1 ≡ x → Seen (moved d (cond x ToTeen ToOperator)).mode (moved d (cond x ToTeen ToOperator)).depth (p ++ b ∷ [])
  first_digit_lem k e h w true f = (w.0, rw (w.1, e, eqb-true k 1 f) (append_assoc w.0 (112 ∷ []) (49 ∷ [])), w.2)
  first_digit_lem k e h w false f = rw (w.1, e, append_assoc, ← spelt_one k h) (with_leaf w.2 (sp_prop k (omega arith)) (is_prop k))

  after_digit : (k : Sign) → Byte k b → Seen Number d p → Seen (moved d (digit k)).mode (moved d (digit k)).depth (p ++ b ∷ [])
  unfolding named
  after_digit (Digit k) e w = first_digit_lem k e.0 e.1 w (eqb k 1) refl
  after_digit Blank e w = tt
  after_digit Letter e w = tt
  after_digit (Before o) e w = tt
  after_digit (Between o) e w = tt
  after_digit Dash e w = tt
  after_digit Angle e w = tt
  after_digit Left e w = tt
  after_digit Right e w = tt
  after_digit Other e w = tt

  after_angle : (k : Sign) → Byte k b → Seen Arrow d p → Seen (moved d (angle k)).mode (moved d (angle k)).depth (p ++ b ∷ [])
  after_angle Angle e w = rw (w.1, e, append_assoc) (with_infix w.2 sp_arrow)
  after_angle (Digit k) e w = tt
  after_angle Blank e w = tt
  after_angle Letter e w = tt
  after_angle (Before o) e w = tt
  after_angle (Between o) e w = tt
  after_angle Dash e w = tt
  after_angle Left e w = tt
  after_angle Right e w = tt
  after_angle Other e w = tt

close_one : (d : ℕ) (p : List ℕ) → Having d p → Seen (closes d).mode (closes d).depth (p ++ 41 ∷ [])
unfolding closes
close_one zero p h = tt
close_one (suc d) p h = record { tokens = _; spells = spells_token h.spells sp_close; has = has_close d h.tokens h.has }

after_operator : (d : ℕ) (p : List ℕ) (b : ℕ) (k : Sign) → Byte k b → Having d p → Seen (moved d (operator k)).mode (moved d (operator k)).depth (p ++ b ∷ [])
after_operator d p b Blank e h = rw e (record { tokens = h.tokens; spells = spells_space h.spells; has = h.has })
after_operator d p b (Between o) e h = with_infix h e
after_operator d p b Dash e h = (p, ap (λ x. p ++ x ∷ []) e, h)
after_operator d p b Right e h = rw e (close_one d p h)
after_operator d p b (Digit k) e h = tt
after_operator d p b Letter e h = tt
after_operator d p b (Before o) e h = tt
after_operator d p b Angle e h = tt
after_operator d p b Left e h = tt
after_operator d p b Other e h = tt

-- `p1`, as a name of its own
teen_has : (d : ℕ) (p : List ℕ) → Seen Teen d p → Having d p
unfolding spell
teen_has d p w = rw w.1 (with_leaf w.2 (sp_prop 1 (omega arith)) (is_prop 1))

second_digit : (d : ℕ) (p : List ℕ) (b k : ℕ) → b ≡ 48 + k → Seen Teen d p → (x : Bool) → ltb (10 + k) names ≡ x → Seen (moved d (cond x ToOperator Stops)).mode (moved d (cond x ToOperator Stops)).depth (p ++ b ∷ [])
second_digit d p b k e w true f =
    let h = ltb-true (10 + k) names f in
    rw (w.1, e, append_assoc, ← spelt_two k h) (with_leaf w.2 (sp_prop (10 + k) h) (is_prop (10 + k)))
second_digit d p b k e w false f = tt

after_teen : (d : ℕ) (p : List ℕ) (b : ℕ) (k : Sign) → Byte k b → Seen Teen d p → Seen (moved d (teen k)).mode (moved d (teen k)).depth (p ++ b ∷ [])
unfolding teen
after_teen d p b (Digit k) e w = second_digit d p b k e.0 w (ltb (10 + k) names) refl
after_teen d p b Blank e w = after_operator d p b Blank e (teen_has d p w)
after_teen d p b Letter e w = after_operator d p b Letter e (teen_has d p w)
after_teen d p b (Before o) e w = after_operator d p b (Before o) e (teen_has d p w)
after_teen d p b (Between o) e w = after_operator d p b (Between o) e (teen_has d p w)
after_teen d p b Dash e w = after_operator d p b Dash e (teen_has d p w)
after_teen d p b Angle e w = after_operator d p b Angle e (teen_has d p w)
after_teen d p b Left e w = after_operator d p b Left e (teen_has d p w)
after_teen d p b Right e w = after_operator d p b Right e (teen_has d p w)
after_teen d p b Other e w = after_operator d p b Other e (teen_has d p w)

stepped : (m : Mode) (d : ℕ) (p : List ℕ) (b : ℕ) → Seen m d p → Seen (step m d (sign_of b)).mode (step m d (sign_of b)).depth (p ++ b ∷ [])
stepped Operand d p b w = after_operand d p b (sign_of b) (byte_of b) w
stepped Number d p b w = after_digit d p b (sign_of b) (byte_of b) w
stepped Teen d p b w = after_teen d p b (sign_of b) (byte_of b) w
stepped Operator d p b w = after_operator d p b (sign_of b) (byte_of b) w
stepped Arrow d p b w = after_angle d p b (sign_of b) (byte_of b) w
stepped Stuck d p b w = tt

ran : (st : State) (p s : List ℕ) → Seen st.mode st.depth p → Seen (run st s).mode (run st s).depth (p ++ s)
unfolding run
ran st p [] w = rw append-nil w
ran st p (b ∷ s) w = rw append_assoc at (ran (step st.mode st.depth (sign_of b)) (p ++ b ∷ []) s (stepped st.mode st.depth p b w))

-- where the text may end, it is whole
ended : (m : Mode) (d : ℕ) (p : List ℕ) → ends m d ≡ true → Seen m d p → Having 0 p
ended Operator d p e w = rw (eqb-true d 0 e) at w
ended Teen d p e w = rw (eqb-true d 0 e) at (teen_has d p w)
ended Operand d p e w = absurd (false≢true e)
ended Number d p e w = absurd (false≢true e)
ended Arrow d p e w = absurd (false≢true e)
ended Stuck d p e w = absurd (false≢true e)

-- what the scanner takes is a text
pub built : (s : List ℕ) → ends (run start s).mode (run start s).depth ≡ true → (f : Formula) × SaidBy f s
unfolding Has
built s e =
    let h = ended (run start s).mode (run start s).depth s e (ran start [] s (record { tokens = []; spells = end; wants = wants_start })) in
    (h.has.0, record { tokens = h.tokens; spells = h.spells; text = h.has.1 })
