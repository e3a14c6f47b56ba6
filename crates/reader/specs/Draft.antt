-- A rule that grows as its text is read, and what each part of the reader does.
use Rattle.std.specs.Prelude.{ℕ, ◌+◌, ◌-◌, ◌*◌, ◌≤◌, ◌<◌, ◌≡◌, List, [], ◌∷◌, false, cond, ltb, set, get_or, length, drop}
use Rattle.syntax.specs.declared.Op.{Op}
use Rattle.syntax.specs.declared.Op.TheVariants.{Implies}
use Rattle.syntax.specs.declared.Rule.{Rule}
use Rattle.syntax.specs.declared.Token.{Token}
use Rattle.syntax.specs.declared.Token.TheVariants.{Leaf, Prefix, Infix, Open, Close, End}
use Rattle.syntax.specs.declared.Sign.{Sign}
use Rattle.syntax.specs.declared.Sign.TheVariants.{Blank, Digit, Letter, Before, Between, Dash, Angle, Left, Right, Other}
use Rattle.syntax.specs.Bytes.{sign_of, gap, leaf_of, lex_name, tokens}
use Rattle.syntax.specs.Reader.{Got, number, head, tail}
use Rattle.reader.specs.declared.Mark.{Mark}
use Rattle.reader.specs.declared.Draft.{Draft}

-- with one node more; a full rule only tells that there were more, by the length 33
abbrev pub pushed : Rule → Op → Rule
pushed r o = cond (ltb r.len 32) (record { len = r.len + 1; nodes = set r.nodes r.len (record { op = o }) }) (record { len = 33; nodes = r.nodes })

-- with several, one after the other
unfoldable pub written : Rule → List Op → Rule
written r [] = r
written r (o ∷ os) = written (pushed r o) os

-- r is the first place from `from` on where a token begins, or the end
pub record Skipped (s : List ℕ) (from r : ℕ) : Type 0 where
  pub onward : from ≤ r
  pub within : r ≤ length s
  pub same : tokens s r ≡ tokens s from
  pub stops : r < length s → gap (sign_of (get_or s r 0)) ≡ false

-- the token that a byte of the sign is by itself: there is none where the sign is a gap or the letter of a proposition
abbrev pub token_of : Sign → Token
token_of (Digit k) = Leaf (leaf_of k)
token_of (Before o) = Prefix o
token_of (Between o) = Infix o
token_of Dash = Infix Implies
token_of Left = Open
token_of Right = Close
token_of Letter = End
token_of Blank = End
token_of Angle = End
token_of Other = End

-- m is the proposition whose name goes on at `at`, behind its `p`
pub record Lettered (s : List ℕ) (at : ℕ) (m : Mark) : Type 0 where
  pub split : lex_name (drop at s) ≡ m.token ∷ tokens s m.next
  pub onward : at ≤ m.next
  pub within : m.next ≤ length s

-- m is the first token from `from` on
pub record Next (s : List ℕ) (from : ℕ) (m : Mark) : Type 0 where
  pub token_is : m.token ≡ head (tokens s from)
  pub rest_is : tokens s m.next ≡ tail (tokens s from)
  pub onward : from ≤ m.next
  pub moves : number m.token < 8 → from < m.next
  pub within : m.next ≤ length s

-- the draft with an operator written
abbrev pub closed_by : Draft → Op → Draft
closed_by d o = record { at = d.at; rule = pushed d.rule o }

-- the draft with a mark passed
abbrev pub past_mark : Draft → Mark → Draft
past_mark d m = record { at = m.next; rule = d.rule }

-- from d to r, what g says is written, and what g leaves is left
pub record Leads (s : List ℕ) (d r : Draft) (g : Got) : Type 0 where
  pub rule_is : r.rule ≡ written d.rule g.out
  pub rest_is : tokens s r.at ≡ g.rest

-- from d to r stands what the reader f reads with any fuel above 8 for each byte left, and h
pub record Did (f : ℕ → List Token → Got) (h : ℕ) (s : List ℕ) (d r : Draft) : Type 0 where
  pub onward : d.at ≤ r.at
  pub within : r.at ≤ length s
  pub leads : (n : ℕ) → 8 * (length s - d.at) + h < n → Leads s d r (f n (tokens s d.at))
