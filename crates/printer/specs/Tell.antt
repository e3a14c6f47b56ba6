-- A rule's nodes told from the last one backwards.
use Rattle.std.specs.Prelude.{ℕ, zero, suc, ◌+◌, ◌%◌, ◌≤◌, ◌<◌, ◌≡◌, List, [], ◌∷◌, ◌++◌, Bool, true, false, cond, eqb, leb, length, drop, get_or}
use Rattle.syntax.specs.declared.Op.{Op}
use Rattle.syntax.specs.declared.Op.TheVariants.{False, True, Prop, Not, Next, Finally, Globally, Until, Release, And, Or, Implies}
use Rattle.syntax.specs.declared.Node.{Node}
use Rattle.meaning.specs.Formula.{Formula, size}
use Rattle.syntax.specs.declared.Rule.{Rule}
use Rattle.syntax.specs.Grammar.{names}
use Rattle.syntax.specs.Postfix.{sides}
use Rattle.syntax.specs.Print.{inside, print, Below}
use Rattle.syntax.specs.Value.{blank, rule_of}
use Rattle.writing.specs.Put.{Put}
use Rattle.printer.specs.declared.Spot.{Spot}

-- whether a node's own word has a byte before its number or its last byte
abbrev pub wide : Op → Bool
wide False = false
wide True = false
wide (Prop k) = true
wide Not = false
wide Next = false
wide Finally = false
wide Globally = false
wide Until = false
wide Release = false
wide And = false
wide Or = false
wide Implies = true

-- the last byte of the word
abbrev pub last : Op → ℕ
last False = 48
last True = 49
last (Prop k) = 48 + k % names % 10
last Not = 33
last Next = 88
last Finally = 70
last Globally = 71
last Until = 85
last Release = 82
last And = 38
last Or = 124
last Implies = 62

-- whether the word ends with a number of two digits
abbrev pub ten : Op → Bool
ten False = false
ten True = false
ten (Prop k) = leb 10 (k % names)
ten Not = false
ten Next = false
ten Finally = false
ten Globally = false
ten Until = false
ten Release = false
ten And = false
ten Or = false
ten Implies = false

-- the first byte of a word of more bytes
abbrev pub first : Op → ℕ
first False = 112
first True = 112
first (Prop k) = 112
first Not = 112
first Next = 112
first Finally = 112
first Globally = 112
first Until = 112
first Release = 112
first And = 112
first Or = 112
first Implies = 45

-- its end: the last byte, and before it the 1 of a number of two digits
abbrev pub ending : Op → List ℕ
ending o = cond (ten o) (49 ∷ last o ∷ []) (last o ∷ [])

-- a node's own word
abbrev pub word : Op → List ℕ
word o = cond (wide o) (first o ∷ ending o) (ending o)

-- and how many bytes its end and the word have
abbrev pub end_width : Op → ℕ
end_width o = cond (ten o) 2 1

abbrev pub width : Op → ℕ
width o = cond (wide o) 1 0 + end_width o

-- the nodes before k, the last one first
unfoldable pub back : List Node → ℕ → List Op
back ns zero = []
back ns (suc k) = (get_or ns k blank).op ∷ back ns k

-- a text, and the nodes that it leaves
pub record Line : Type 0 where
  pub text : List ℕ
  pub rest : List Op

-- the text of the rule whose last node comes first
unfoldable pub tell : ℕ → List Op → Line
tell zero os = record { text = []; rest = os }
tell (suc n) [] = record { text = []; rest = [] }
tell (suc n) (o ∷ os) =
    let r = tell n os in
    let l = tell n r.rest in
    cond (eqb (sides o) 0) (record { text = word o; rest = os })
    (cond (eqb (sides o) 1) (record { text = word o ++ r.text; rest = r.rest })
    (record { text = inside l.text (word o) r.text; rest = l.rest }))

-- the end of a node's word, written so that it ends at hi
pub record Ending (a : List ℕ) (hi : ℕ) (o : Op) (r : ℕ) (b : List ℕ) : Type 0 where
  pub begins : r + end_width o ≡ hi
  pub wrote : Put a r (ending o) b hi

-- the word of a node, written so that it ends at hi
pub record Wording (a : List ℕ) (hi : ℕ) (o : Op) (r : ℕ) (b : List ℕ) : Type 0 where
  pub begins : r + width o ≡ hi
  pub wrote : Put a r (word o) b hi

-- the parentheses of a node with so many operands
abbrev pub parens : ℕ → ℕ
parens zero = 0
parens (suc zero) = 0
parens (suc (suc k)) = 2

-- how many bytes a node brings: its word, and its parentheses
abbrev pub share : Op → ℕ
share o = width o + parens (sides o)

-- how many bytes several nodes bring
unfoldable pub shares : List Op → ℕ
shares [] = 0
shares (o ∷ os) = share o + shares os

-- there is room for the words of all nodes before k
pub record Room (ns : List Node) (k hi size : ℕ) : Type 0 where
  pub nodes : k ≤ 32
  pub room : shares (back ns k) ≤ hi
  pub fits : hi ≤ size

-- the rule whose last node stands before k is written so that it ends at hi: from r's place on, and from r's node on
pub record Told (ns : List Node) (k hi : ℕ) (a : List ℕ) (r : Spot) (b : List ℕ) : Type 0 where
  pub down : r.node ≤ k
  pub paid : hi + shares (back ns r.node) ≡ r.at + shares (back ns k)
  pub told : (n : ℕ) → k < n → ((tell n (back ns k)).rest ≡ back ns r.node) × Put a r.at (tell n (back ns k)).text b hi

-- the nodes os, the last one first, and then r
unfoldable pub onto : List Op → List Op → List Op
onto [] r = r
onto (o ∷ os) r = onto os (o ∷ r)

-- the rule is the value of f, which can be printed
pub record Shows (rule : Rule) (f : Formula) : Type 0 where
  pub is : rule ≡ rule_of f
  pub small : size f ≤ 32
  pub below : Below names f

-- the rule is the value of a formula whose text fits
pub record Printable (rule : Rule) (room : ℕ) : Type 0 where
  pub formula : Formula
  pub shows : Shows rule formula
  pub fits : length (print formula) ≤ room

-- the formula's text stands at the start of b, of length r; the rest is a's
pub record Prints (rule : Rule) (a : List ℕ) (r : ℕ) (b : List ℕ) : Type 0 where
  pub long : (f : Formula) → Shows rule f → r ≡ length (print f)
  pub text : (f : Formula) → Shows rule f → b ≡ print f ++ drop r a
