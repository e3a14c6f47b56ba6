-- For each place and valuation the states where what ends there holds, word p * 64 + v, as the loop finds them.
use Rattle.std.specs.Prelude.{ℕ, zero, suc, ◌+◌, ◌-◌, ◌*◌, ◌/◌, ◌%◌, ◌^◌, cond, ◌&&◌, List, ltb, get_or, set, replicate}
use Rattle.std.specs.Int.Bits.{bit_and, bit_or}
use Rattle.meaning.specs.Bit.{bit}
use Rattle.syntax.specs.declared.Op.{Op}
use Rattle.syntax.specs.declared.Op.TheVariants.{False, True, Prop, Not, Next, Finally, Globally, Until, Release, And, Or, Implies}
use Rattle.syntax.specs.declared.Node.{Node}
use Rattle.syntax.specs.Grammar.{names}
use Rattle.words.specs.Word.{only_of}
use Rattle.words.specs.Below.{words_below}
use Rattle.labels.specs.Labels.{having_of}
use Rattle.shape.specs.Ops.{op_at}

-- the states whose label has the proposition p; one without a name no state has
unfoldable pub named_of : List ℕ → ℕ → ℕ
named_of label p = cond (ltb p names) (having_of label p) 0

-- the states where a node holds by their labels alone, if it is a proposition
abbrev pub leaf_of : Op → List ℕ → ℕ
leaf_of (Prop p) label = named_of label p
leaf_of False label = 0
leaf_of True label = 0
leaf_of Not label = 0
leaf_of Next label = 0
leaf_of Finally label = 0
leaf_of Globally label = 0
leaf_of Until label = 0
leaf_of Release label = 0
leaf_of And label = 0
leaf_of Or label = 0
leaf_of Implies label = 0

-- part k at the valuation v: all states or none
abbrev pub own_of : ℕ → ℕ → ℕ
own_of v k = only_of (ltb k 6 && bit v k) (2 ^ 64 - 1)

-- a node's word from its operands' words, x the first of two and y the last; from `leaf` if it is a proposition, and from `own` if it is a part
abbrev pub made_of : Op → ℕ → ℕ → ℕ → ℕ → ℕ
made_of False leaf x y own = 0
made_of True leaf x y own = 2 ^ 64 - 1
made_of (Prop p) leaf x y own = leaf
made_of Not leaf x y own = 2 ^ 64 - 1 - y
made_of Next leaf x y own = own
made_of Finally leaf x y own = own
made_of Globally leaf x y own = own
made_of Until leaf x y own = own
made_of Release leaf x y own = own
made_of And leaf x y own = bit_and x y
made_of Or leaf x y own = bit_or x y
made_of Implies leaf x y own = bit_or (2 ^ 64 - 1 - x) y

abbrev pub word_at : List ℕ → ℕ → ℕ → ℕ
word_at words place v = cond (ltb place 33) (get_or words (place * 64 + v) 0) 0

-- the words with the first n behind node `at` filled in: its first operand ends at `first`, and it is part `number`
unfoldable pub node_filled : Op → ℕ → ℕ → ℕ → ℕ → List ℕ → ℕ → List ℕ
node_filled op leaf first number at words zero = words
node_filled op leaf first number at words (suc v) =
    let w = node_filled op leaf first number at words v in
    set w (at * 64 + v + 64) (made_of op leaf (word_at w first v) (get_or w (at * 64 + v) 0) (own_of v number))

-- all words, one after the other, after n of them
unfoldable pub nodes_after : List Node → List ℕ → List ℕ → List ℕ → ℕ → List ℕ
nodes_after nodes label begins numbers zero = replicate 2112 0
nodes_after nodes label begins numbers (suc n) =
    let w = nodes_after nodes label begins numbers n in
    set w (n + 64) (made_of (op_at nodes (n / 64)) (leaf_of (op_at nodes (n / 64)) label) (word_at w (get_or begins (n / 64) 0) (n % 64)) (get_or w n 0) (own_of (n % 64) (get_or numbers (n / 64) 0)))

-- the rule's own words
abbrev pub holds_of : List ℕ → ℕ → List ℕ
holds_of words len = words_below 64 (λ v. word_at words len v)
