-- No call on sheets has a choice: two results that its contract allows are equal, and so are the bytes and words that they leave in what was lent. And none asks anything of its arguments.
-- Said of the contracts themselves, as promises/proofs/OneAnswer says it of the other calls.
use Rattle.std.specs.Prelude.{ℕ, ◌≡◌, refl, List}
use Rattle.std.proofs.Common.{sym, ◌∙◌}
use base.Logic.{emp}
use contract.Lifetimes.{Lfts}
use Rattle.std.specs.Borrow.{Bor}
use denote.Triple.Clauses.{AtExit}
use borrow.Fn.Claims.{AllOf}
use borrow.Fn.World.{World, Pr, ArgsD, ResD}
use borrow.Fn.Read.{Read, no_know, all_models, r_last, r_top}
use Rattle.settings.specs.declared.Spot.{Spot}
use Rattle.settings.specs.Part.{IsPart}
use Rattle.settings.specs.Asked.{asked, spot_of}
use Rattle.sheet_promises.specs.HandedBack.{HandedBack, handed_back}
use Rattle.sheet.proofs.scan_sheet.Reads as scan_sheet
use Rattle.settings.proofs.ask.Reads as ask
use Rattle.settings.proofs.value_of.Reads as value_of_lem
use Rattle.settings.specs.contracts.look_up as look_up
use Rattle.sheet_store.proofs.add.Reads as adding
use Rattle.sheet_store.proofs.copy_out.Reads as copy_out
use Rattle.store_words.proofs.store_of.Reads as store_of
use Rattle.store_words.proofs.words_of.Reads as words_of
use Rattle.store_words.proofs.keep_sheet.Reads as keep_sheet
use Rattle.store_words.proofs.copy_sheet.Reads as copy_sheet

-- ---- sheets

pub scan_sheet_one : (κs : _) (x : _) (r r' : _) (u u' : _) → scan_sheet.Learnt κs x r u → scan_sheet.Learnt κs x r' u' → r ≡ r'
scan_sheet_one κs x r r' u u' e e' = e ∙ sym e'

pub ask_one : (κs : _) (x : _) (r r' : _) (u u' : _) → ask.Learnt κs x r u → ask.Learnt κs x r' u' → r ≡ r'
ask_one κs x r r' u u' e e' = e ∙ sym e'

-- a part of a sheet: where it begins, and its bytes
pub one_part : (p : Spot) (local shared r r' : Bor (List ℕ)) → IsPart p local shared r → IsPart p local shared r' → (r.ref_ptr ≡ r'.ref_ptr) × (r.now ≡ r'.now)
one_part p local shared r r' e e' = (e.place ∙ sym e'.place, e.bytes ∙ sym e'.bytes)

pub value_of_one : (κs : _) (x : _) (r r' : _) (u u' : _) → value_of_lem.Learnt κs x r u → value_of_lem.Learnt κs x r' u' → (r.ref_ptr ≡ r'.ref_ptr) × (r.now ≡ r'.now)
value_of_one κs x r r' u u' e e' = (e.place ∙ sym e'.place, e.bytes ∙ sym e'.bytes)

-- of a call whose result holds a reference the kit makes no reading. Its clauses are read here, by the kit's own rules
module _ (κs : Lfts 1) (x : ArgsD look_up.signature κs) where
  abbrev clause : ResD look_up.signature κs → AtExit look_up.ended κs → (w : World) → Pr w
  clause r u w = (look_up.clauses w.𝓛 w.𝓜.mem w.𝓡.run κs x).ensures tt r u

  abbrev reading : (r : ResD look_up.signature κs) (u : AtExit look_up.ended κs) → Read (λ w. emp w.𝓤) no_know (clause r u)
  reading r u = all_models (clause r u) (λ w. r_last (r.answer ≡ asked x.0.now x.1.0.now x.1.1.0 × IsPart (spot_of r.answer) x.0 x.1.0 r.bytes)) (λ w. refl) (λ w. refl) (λ w. refl)

  abbrev pub LookUpLearnt : ResD look_up.signature κs → AtExit look_up.ended κs → Type 0
  LookUpLearnt r u = AllOf (reading r u).tells

  -- the answer, where the part begins, and its bytes
  pub look_up_one :
      (r r' : _) (u u' : _) → LookUpLearnt r u → LookUpLearnt r' u' → (r.answer ≡ r'.answer) × (r.bytes.ref_ptr ≡ r'.bytes.ref_ptr) × (r.bytes.now ≡ r'.bytes.now)
  look_up_one r r' u u' e e' =
      let same = e.0 ∙ sym e'.0 in
      let part = one_part (spot_of r'.answer) x.0 x.1.0 r.bytes r'.bytes (rw same at e.1) e'.1 in
      (same, part.0, part.1)

  -- and what it hands back is what request j says
  pub look_up_right : (r : _) (u : _) → LookUpLearnt r u → HandedBack x.0 x.1.0 x.1.1.0 r.answer r.bytes
  look_up_right r u e = handed_back x.0 x.1.0 r.bytes x.1.1.0 r.answer e.0 e.1

  abbrev condition : (w : World) → Pr w
  condition w = (look_up.clauses w.𝓛 w.𝓜.mem w.𝓡.run κs x).requires tt

  abbrev needed : Read (λ w. emp w.𝓤) no_know condition
  needed = all_models condition (λ w. r_top) (λ w. refl) (λ w. refl) (λ w. refl)

  pub any_look_up : AllOf needed.owes
  any_look_up = tt

-- ---- stores

pub add_one : (κs : _) (x : _) (r r' : _) (u u' : _) → adding.Learnt κs x r u → adding.Learnt κs x r' u' → r ≡ r'
add_one κs x r r' u u' e e' = e ∙ sym e'

-- with the buffer that a sheet is copied into
pub copy_out_one : (κs : _) (x : _) (r r' : _) (u u' : _) → copy_out.Learnt κs x r u → copy_out.Learnt κs x r' u' → (r ≡ r') × (u.1.1.0.now ≡ u'.1.1.0.now)
copy_out_one κs x r r' u u' e e' = (e.0 ∙ sym e'.0, e.1 ∙ sym e'.1)

pub store_of_one : (κs : _) (x : _) (r r' : _) (u u' : _) → store_of.Learnt κs x r u → store_of.Learnt κs x r' u' → r ≡ r'
store_of_one κs x r r' u u' e e' = e ∙ sym e'

pub words_of_one : (κs : _) (x : _) (r r' : _) (u u' : _) → words_of.Learnt κs x r u → words_of.Learnt κs x r' u' → r ≡ r'
words_of_one κs x r r' u u' e e' = e ∙ sym e'

-- with the words of the store
pub keep_sheet_one : (κs : _) (x : _) (r r' : _) (u u' : _) → keep_sheet.Learnt κs x r u → keep_sheet.Learnt κs x r' u' → (r ≡ r') × (u.0.now ≡ u'.0.now)
keep_sheet_one κs x r r' u u' e e' = (e.0 ∙ sym e'.0, e.1 ∙ sym e'.1)

-- with the buffer
pub copy_sheet_one : (κs : _) (x : _) (r r' : _) (u u' : _) → copy_sheet.Learnt κs x r u → copy_sheet.Learnt κs x r' u' → (r ≡ r') × (u.1.1.0.now ≡ u'.1.1.0.now)
copy_sheet_one κs x r r' u u' e e' = (e.0 ∙ sym e'.0, e.1 ∙ sym e'.1)

-- ---- none of them asks anything of its arguments

pub any_sheet : ((κs : _) (x : _) → scan_sheet.Asked κs x) × ((κs : _) (x : _) → ask.Asked κs x) × ((κs : _) (x : _) → value_of_lem.Asked κs x)
any_sheet = (λ κs x. tt, λ κs x. tt, λ κs x. tt)

pub any_store : ((κs : _) (x : _) → adding.Asked κs x) × ((κs : _) (x : _) → copy_out.Asked κs x) × ((κs : _) (x : _) → store_of.Asked κs x) × ((κs : _) (x : _) → words_of.Asked κs x) × ((κs : _) (x : _) → keep_sheet.Asked κs x) × ((κs : _) (x : _) → copy_sheet.Asked κs x)
any_store = (λ κs x. tt, λ κs x. tt, λ κs x. tt, λ κs x. tt, λ κs x. tt, λ κs x. tt)
