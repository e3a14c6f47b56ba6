-- What an event says, and check 10: what it may see and give.
use Rattle.std.specs.Prelude.{ℕ, ◌^◌, ◌≤◌, ◌≡◌, refl, Bool, true, false, ◌&&◌, leb, ltb, eqb}
use Rattle.std.proofs.Common.{ap, ◌∙◌, leb-true, le-leb, ltb-true, lt-ltb, eqb-true, eq-eqb}
use Rattle.std.proofs.Math.Bool.{So}
use Rattle.std.specs.Int.Bits.{bit_and}
use Rattle.meaning.specs.Bit.{bit}
use Rattle.meaning.specs.Says.{Says}
use Rattle.meaning.specs.Run.{Plant}
use Rattle.meaning.specs.Event as meaning
use Rattle.meaning.specs.Event.{Seen}
use Rattle.meaning.specs.Limits.{most_props, Legal}
use Rattle.words.specs.Truth.{and_says}
use Rattle.words.specs.Laws.{bit_and_lem, same_bits}
use Rattle.event_log.specs.declared.Event.{Event}

-- what the event saw
abbrev pub seen_of : Event → Seen
seen_of e = record { see = e.see; val = e.val }

-- and whether it restarts
abbrev pub event_of : Event → meaning.Event
event_of e = record { seen = seen_of e; new = e.new }

-- for any count at all: at most 16 propositions, none seen beyond them, 1 given to none but those seen
unfoldable pub legal_of : Event → ℕ → Bool
legal_of e props = leb props most_props && (ltb e.see (2 ^ props) && eqb (bit_and e.val e.see) e.val)

-- this is check 10 for each table of at most 16 propositions
pub legal_exactly : (T : Plant) (e : Event) → Says (legal_of e T.props) ((T.props ≤ most_props) × Legal T (seen_of e))
unfolding legal_of
legal_exactly T e = (there, back)
  where
    given : (a b : Bool) → (So a → So b) → (a && b) ≡ a
    given true b h = h refl
    given false b h = refl

    there : So (legal_of e T.props) → (T.props ≤ most_props) × Legal T (seen_of e)
    there h =
        let (few, rest) = (and_says _ _).0 h in
        let (sees, gives) = (and_says _ _).0 rest in (
          leb-true T.props most_props few,
          record {
            sees = ltb-true e.see (2 ^ T.props) sees;
            gives = λ p i. ((and_says (bit e.val p) (bit e.see p)).0 (rw bit_and_lem at (ap (λ (x : ℕ). bit x p) (eqb-true (bit_and e.val e.see) e.val gives) ∙ i))).1;
          },
        )

    back : (T.props ≤ most_props) × Legal T (seen_of e) → So (legal_of e T.props)
    back (few, l) =
        (and_says _ _).1 (
          le-leb T.props most_props few,
          (and_says _ _).1 (
            lt-ltb e.see (2 ^ T.props) l.sees,
            eq-eqb (bit_and e.val e.see) e.val (same_bits (bit_and e.val e.see) e.val
                (λ p. bit_and_lem e.val e.see p ∙ given (bit e.val p) (bit e.see p) (l.gives p))),
          ),
        )
