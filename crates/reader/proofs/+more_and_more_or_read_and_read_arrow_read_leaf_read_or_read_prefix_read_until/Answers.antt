-- The proof of the cycle of calls of the reader's levels. The measure: 8 for each byte left, and the level's height: 0 for a leaf, and 1 more for each looser level.
-- A call goes to a tighter level at the same place, or to any level further on. What each member did, a law of `Levels` says for its shape.
-- Assumes nothing.
use Prim.Native.Nat.{◌-◌}
use mathlib.Core.Path.{refl, ap}
use native.Mathlib.Omega.{arith}
use Rattle.std.proofs.Common.{rules}
use Rattle.syntax.specs.declared.Op.TheVariants.{And, Or, Implies}
use Rattle.syntax.specs.declared.Token.TheVariants.{Infix}
use Rattle.syntax.specs.Grammar.{arrows, ors, ands, untils, prefixes, leaves}
use Rattle.syntax.specs.Reader.{number, read, more}
use Rattle.reader.proofs.Levels.{right_more, right_none, in_turn_lem, left_more, left_none, before_more, before_none, leaf_one, leaf_group, leaf_none, marks, marks_until, no_until, no_two, no_infix, no_prefix, no_leaf, no_open}
use Rattle.reader.proofs.+more_and_more_or_read_and_read_arrow_read_leaf_read_or_read_prefix_read_until.Goals as goal

pub more_and-returns-then-eq : goal.more_and-returns-then-eq
unfolding more
more_and-returns-then-eq t c =
    left_more _ 2 2 (omega arith) (omega arith) (λ n ts. more n ands ts) (λ n ts. read n untils ts) (λ n ts. refl)
    c.token_at-mark.ensures (marks {m = c.token_at-mark.result} {t = Infix And} (search rules)) c.past.ensures c.read_until-right.ensures c.closed_by.ensures c.more_and.ensures

pub more_and-returns-else-eq : goal.more_and-returns-else-eq
unfolding more
more_and-returns-else-eq t c =
    left_none _ 2 2 (omega arith) (omega arith) (λ n ts. more n ands ts) (λ n ts. read n untils ts) (λ n ts. refl) c.requires c.token_at-mark.ensures (no_infix c.token_at-mark.result.token And (omega arith) (λ e. search rules))

pub more_or-returns-then-eq : goal.more_or-returns-then-eq
unfolding more
more_or-returns-then-eq t c =
    left_more _ 1 3 (omega arith) (omega arith) (λ n ts. more n ors ts) (λ n ts. read n ands ts) (λ n ts. refl)
    c.token_at-mark.ensures (marks {m = c.token_at-mark.result} {t = Infix Or} (search rules)) c.past.ensures c.read_and-right.ensures c.closed_by.ensures c.more_or.ensures

pub more_or-returns-else-eq : goal.more_or-returns-else-eq
unfolding more
more_or-returns-else-eq t c =
    left_none _ 1 3 (omega arith) (omega arith) (λ n ts. more n ors ts) (λ n ts. read n ands ts) (λ n ts. refl) c.requires c.token_at-mark.ensures (no_infix c.token_at-mark.result.token Or (omega arith) (λ e. search rules))

pub read_and-returns : goal.read_and-returns
unfolding read
read_and-returns t c = in_turn_lem _ 2 (λ n ts. read n ands ts) (λ n ts. read n untils ts) (λ n ts. more n ands ts) (λ n ts. refl) c.read_until.ensures c.more_and.ensures

pub read_arrow-returns-then-eq : goal.read_arrow-returns-then-eq
unfolding read
read_arrow-returns-then-eq t c =
    right_more _ 0 4 (omega arith) (λ n ts. read n arrows ts) (λ n ts. read n ors ts) (λ n ts. refl)
    c.read_or-left.ensures c.token_at-mark.ensures (marks {m = c.token_at-mark.result} {t = Infix Implies} (search rules)) c.past.ensures c.read_arrow-right.ensures c.closed_by.ensures

pub read_arrow-returns-else-eq : goal.read_arrow-returns-else-eq
unfolding read
read_arrow-returns-else-eq t c =
    right_none _ 0 4 (omega arith) (λ n ts. read n arrows ts) (λ n ts. read n ors ts) (λ n ts. refl)
    c.read_or-left.ensures c.token_at-mark.ensures (no_infix c.token_at-mark.result.token Implies (omega arith) (λ e. search rules))

pub read_leaf-returns-in-Leaf : goal.read_leaf-returns-in-Leaf
unfolding read
read_leaf-returns-in-Leaf t c =
    leaf_one _ 5 (omega arith) (λ n ts. read n leaves ts) (λ n ts. read n arrows ts) (λ n ts. refl) c.token_at-mark.ensures (marks c.in-Leaf.is) c.past.ensures c.closed_by.ensures

pub read_leaf-returns-in-Open : goal.read_leaf-returns-in-Open
unfolding read
read_leaf-returns-in-Open t c =
    leaf_group _ 5 (omega arith) (λ n ts. read n leaves ts) (λ n ts. read n arrows ts) (λ n ts. refl)
    c.token_at-mark.ensures (λ e. omega (arith, e, ap number c.in-Open.is)) (ap number c.in-Open.is) c.past-in-Open.ensures c.read_arrow-inner.ensures c.token_at-close.ensures c.past-in-Open-2.ensures

pub read_leaf-returns-in_default : goal.read_leaf-returns-in_default
unfolding read
read_leaf-returns-in_default t c =
    leaf_none _ 5 (omega arith) (λ n ts. read n leaves ts) (λ n ts. read n arrows ts) (λ n ts. refl) c.requires c.token_at-mark.ensures (no_leaf _ c.in_default.not-Leaf) (no_open _ c.in_default.not-Open)

pub read_or-returns : goal.read_or-returns
unfolding read
read_or-returns t c = in_turn_lem _ 3 (λ n ts. read n ors ts) (λ n ts. read n ands ts) (λ n ts. more n ors ts) (λ n ts. refl) c.read_and.ensures c.more_or.ensures

pub read_prefix-returns-in-Prefix : goal.read_prefix-returns-in-Prefix
unfolding read
read_prefix-returns-in-Prefix t c =
    before_more _ 4 0 (omega arith) (λ n ts. read n prefixes ts) (λ n ts. read n leaves ts) (λ n ts. refl) c.token_at-mark.ensures (marks c.in-Prefix.is) c.past.ensures c.read_prefix-inner.ensures c.closed_by.ensures

pub read_prefix-returns-in_default : goal.read_prefix-returns-in_default
unfolding read
read_prefix-returns-in_default t c =
    before_none _ 4 0 (omega arith) (λ n ts. read n prefixes ts) (λ n ts. read n leaves ts) (λ n ts. refl) c.token_at-mark.ensures (no_prefix _ c.in_default.not-Prefix) c.read_leaf.ensures

pub read_until-returns-in-Infix : goal.read_until-returns-in-Infix
unfolding read
read_until-returns-in-Infix t c =
    right_more _ 3 1 (omega arith) (λ n ts. read n untils ts) (λ n ts. read n prefixes ts) (λ n ts. refl)
    c.read_prefix-left.ensures c.token_at-mark.ensures (marks_until c.in-Infix.is c.is_until.ensures c.if-is_until.true) c.past.ensures c.read_until-right.ensures
    c.closed_by.ensures

pub read_until-returns-in_default : goal.read_until-returns-in_default
unfolding read
read_until-returns-in_default t c =
    right_none _ 3 1 (omega arith) (λ n ts. read n untils ts) (λ n ts. read n prefixes ts) (λ n ts. refl)
    c.read_prefix-left.ensures c.token_at-mark.ensures (no_until c.in-Infix.is c.is_until.ensures c.if-is_until.false)

pub read_until-returns-in_default-2 : goal.read_until-returns-in_default-2
unfolding read
read_until-returns-in_default-2 t c =
    right_none _ 3 1 (omega arith) (λ n ts. read n untils ts) (λ n ts. read n prefixes ts) (λ n ts. refl)
    c.read_prefix-left.ensures c.token_at-mark.ensures (no_two c.token_at-mark.result.token (λ o e. search rules))
