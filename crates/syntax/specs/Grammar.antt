-- The grammar of rule texts: the tokens and their bytes, how tightly each operator binds and to which side it groups.
use Rattle.std.specs.Prelude.{ℕ, suc, ◌+◌, ◌/◌, ◌%◌, ◌≤◌, ◌<◌, ◌≡◌, ◌⊎◌, cond, ltb, length, take, drop, List, [], ◌∷◌, ◌++◌}
use Rattle.meaning.specs.Limits.{most_props}
use Rattle.meaning.specs.Formula.{Formula, never, always, prop, neg, next, finally, globally, until, release, and, or, implies}
use Rattle.syntax.specs.declared.Op.{Op}
use Rattle.syntax.specs.declared.Op.TheVariants.{False, True, Prop, Not, Next, Finally, Globally, Until, Release, And, Or, Implies}
use Rattle.syntax.specs.declared.Token.{Token}
use Rattle.syntax.specs.declared.Token.TheVariants.{Leaf, Prefix, Infix, Open, Close}

-- how many propositions have a name: `p0` to `p15`, as many as a table can have
abbrev pub names : ℕ
names = most_props

-- the most bytes that the text of a rule may have (01, Sizes)
abbrev pub longest_rule : ℕ
longest_rule = 512

-- a number below 100 in decimal, with no leading zero
unfoldable pub spell : ℕ → List ℕ
spell k = cond (ltb k 10) ((48 + k) ∷ []) ((48 + k / 10) ∷ (48 + k % 10) ∷ [])

-- the bytes of each token: 0 1 p3 ! X F G U R & | -> ( )
pub data Spelt : Token → List ℕ → Type 0 where
  sp_false : Spelt (Leaf False) (48 ∷ [])
  sp_true : Spelt (Leaf True) (49 ∷ [])
  sp_prop : (k : ℕ) → k < names → Spelt (Leaf (Prop k)) (112 ∷ spell k)
  sp_not : Spelt (Prefix Not) (33 ∷ [])
  sp_next : Spelt (Prefix Next) (88 ∷ [])
  sp_finally : Spelt (Prefix Finally) (70 ∷ [])
  sp_globally : Spelt (Prefix Globally) (71 ∷ [])
  sp_until : Spelt (Infix Until) (85 ∷ [])
  sp_release : Spelt (Infix Release) (82 ∷ [])
  sp_and : Spelt (Infix And) (38 ∷ [])
  sp_or : Spelt (Infix Or) (124 ∷ [])
  sp_arrow : Spelt (Infix Implies) (45 ∷ 62 ∷ [])
  sp_open : Spelt Open (40 ∷ [])
  sp_close : Spelt Close (41 ∷ [])

-- a text: tokens, with spaces between them and at the ends
pub data Spells : List Token → List ℕ → Type 0 where
  end : Spells [] []
  space : {ts : List Token} {s : List ℕ} → Spells ts s → Spells ts (32 ∷ s)
  token : {t : Token} {b : List ℕ} {ts : List Token} {s : List ℕ} → Spelt t b → Spells ts s → Spells (t ∷ ts) (b ++ s)

-- the levels of an expression, the loosest first
pub data Level : Type 0 where
  arrows ors ands untils prefixes leaves : Level

-- the leaves
pub data Atom : Op → Formula → Type 0 where
  is_false : Atom False never
  is_true : Atom True always
  is_prop : (k : ℕ) → Atom (Prop k) (prop k)

-- the prefix operators
pub data Unary : Op → (Formula → Formula) → Type 0 where
  is_not : Unary Not neg
  is_next_lem : Unary Next next
  is_finally : Unary Finally finally
  is_globally : Unary Globally globally

pub data Side : Type 0 where
  left right : Side

-- the two-sided operators: the level each stands on, and the side to which it groups
pub data Binary : Level → Side → Op → (Formula → Formula → Formula) → Type 0 where
  is_implies : Binary arrows right Implies implies
  is_or : Binary ors left Or or
  is_and : Binary ands left And and
  is_until : Binary untils right Until until
  is_release : Binary untils right Release release

-- the level that binds one step tighter
unfoldable pub tighter : Level → Level
tighter arrows = ors
tighter ors = ands
tighter ands = untils
tighter untils = prefixes
tighter prefixes = leaves
tighter leaves = leaves

-- a rule's tokens, as an expression of a level
pub data Text : Level → Formula → List Token → Type 0 where
  atom : {o : Op} {f : Formula} → Atom o f → Text leaves f (Leaf o ∷ [])
  group : {f : Formula} {s : List Token} → Text arrows f s → Text leaves f (Open ∷ (s ++ Close ∷ []))
  unary : {o : Op} {u : Formula → Formula} {f : Formula} {s : List Token} → Unary o u → Text prefixes f s → Text prefixes (u f) (Prefix o ∷ s)
  lefts : {l : Level} {o : Op} {j : Formula → Formula → Formula} {f g : Formula} {s t : List Token}
      → Binary l left o j → Text l f s → Text (tighter l) g t → Text l (j f g) (s ++ Infix o ∷ t)
  rights : {l : Level} {o : Op} {j : Formula → Formula → Formula} {f g : Formula} {s t : List Token}
      → Binary l right o j → Text (tighter l) f s → Text l g t → Text l (j f g) (s ++ Infix o ∷ t)
  tight : {l : Level} {f : Formula} {s : List Token} → Text (tighter l) f s → Text l f s

-- the rule f is said by the text s, which is of the grammar
pub record SaidBy (f : Formula) (s : List ℕ) : Type 0 where
  pub tokens : List Token
  pub spells : Spells tokens s
  pub text : Text arrows f tokens

-- the text p begins a text of the grammar
pub record Viable (p : List ℕ) : Type 0 where
  pub rest : List ℕ
  pub rule : Formula
  pub says : SaidBy rule (p ++ rest)

-- refusal 5 at place k: s is of no rule; what stands before k begins a text; with the byte at k it does not, or there is none
pub record Refused (s : List ℕ) (k : ℕ) : Type 0 where
  pub outside : (f : Formula) → SaidBy f s → ⊥
  pub before : Viable (take k s)
  pub here : (k ≡ length s) ⊎ ((k < length s) × (Viable (take (suc k) s) → ⊥))

-- the name of the proposition j stands at place k of s
abbrev pub Stands : List ℕ → ℕ → ℕ → Type 0
Stands s k j = (j < names) × (rest : List ℕ) × (drop k s ≡ 112 ∷ (spell j ++ rest))

-- the proposition j stands at place k of s: of the names that stand there, its own is the longest
pub record Names (s : List ℕ) (k j : ℕ) : Type 0 where
  pub stands : Stands s k j
  pub longest : (i : ℕ) → Stands s k i → i ≤ j

-- refusal 6 at place k, for q propositions: one that is not below q stands there, and before it none
pub record Unknown (q : ℕ) (s : List ℕ) (k : ℕ) : Type 0 where
  pub which : ℕ
  pub here : Names s k which
  pub beyond : q ≤ which
  pub before : (i j : ℕ) → i < k → Names s i j → j < q
