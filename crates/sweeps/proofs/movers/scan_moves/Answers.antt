-- `movers::scan_moves`: `rest` is what of `within` has no move into the words passed. In the inner loop the states tried are still to be
-- dropped. Where none is left, all have a move.
use Rattle.std.proofs.Common.{refl, ◌∙◌, ap, rules}
use Rattle.words.specs.MemberList.{members_of}
use Rattle.moves.specs.Leading.{leading_at}
use Rattle.sweeps.specs.Sweeps.{via_at, movers_at}
use Rattle.sweeps.specs.Scan.{left_start, trying_start, left_done}
use Rattle.sweeps.proofs.Tried.{member_lt, member_hit, member_miss, members_end, members_done}
use Rattle.sweeps.proofs.movers.scan_moves.Goals as goal
use Rattle.sweeps.proofs.movers.scan_moves.Goals.{else-scan-test, then-scan-test+in-Some+then-unwrap_or-target-ne0+then-rest-eq0}

pub scan-init : goal.scan-init
scan-init c = left_start _ _ (search rules)

pub loop-s-init : goal.loop-s-init
loop-s-init c =
    let a = c.args in
    let w = c.scan.w in
    let set = a.set.now in
    let opens = c.both.ensures in
    record {
      tried = c.only-tried.result;
      same = ap members_of (cc);
      trying = trying_start a.next.now a.within w (via_at a.next.now a.leave.now a.enter.now a.count set a.v) c.scan.rest _ _
          _ _ _ refl (rw opens) c.both-in-scan.ensures c.only-tried.ensures (search rules) c.scan.invariant;
    }

pub single-requires : goal.single-requires
single-requires c = member_lt _ _ _ _ _ _ _ _ c.loop-s.invariant c.in-Some.ensures.steps

pub loop-s-preserved-else-rest-eq0 : goal.loop-s-preserved-else-rest-eq0
loop-s-preserved-else-rest-eq0 c =
    member_hit _ _ _ _ _ _ _ _ c.loop-s.invariant c.in-Some.ensures.steps c.unwrap_or.result (search rules) _ _
    c.if-unwrap_or-target-ne0.true c.single.ensures c.without-rest.ensures

pub loop-s-preserved : goal.loop-s-preserved
loop-s-preserved c =
    member_miss _ _ _ _ _ _ _ _ c.loop-s.invariant c.in-Some.ensures.steps c.unwrap_or.result (search rules) c.if-unwrap_or-target-ne0.false

pub scan-preserved : goal.scan-preserved
scan-preserved c = members_end _ _ _ _ _ _ c.loop-s.invariant c.in-None.ensures.steps.0

pub returns : goal.returns
unfolding movers_at leading_at
returns c =
    let a = c.args in
    c.without.ensures ∙ elim c.scan-test.branch [
      | else-scan-test w ↦ rw w.rest-is (left_done a.within _ _ a.count _ (search rules) (search rules) c.scan.invariant)
      | then-scan-test+in-Some+then-unwrap_or-target-ne0+then-rest-eq0 w ↦
          rw w.rest-is (members_done _ _ a.within _ c.scan.w a.count _ _ (search rules) w.scan-test.true w.if-rest-eq0.true
          (member_hit _ _ _ _ _ _ _ _ w.loop-s.invariant w.in-Some.ensures.steps w.unwrap_or.result (search rules) _ _
          w.if-unwrap_or-target-ne0.true w.single.ensures w.without-rest.ensures))
    ]
