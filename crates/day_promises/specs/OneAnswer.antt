-- No call of a day has a choice: two results that its contract allows are equal, and so are the bytes that they leave in what was lent. And none asks anything of its arguments.
-- Said of the contracts themselves, as the kit reads them (promises/proofs/OneAnswer has the other calls).
use Rattle.std.specs.Prelude.{◌≡◌}
use Rattle.std.proofs.Common.{sym, ◌∙◌}
use Rattle.day_sheet.proofs.note.Reads as note
use Rattle.day_writer.proofs.write_sheet.Reads as write_sheet
use Rattle.day_log.proofs.note_log.Reads as note_log
use Rattle.minutes.proofs.note_texts.Reads as note_texts

pub note_one : (κs : _) (x : _) (r r' : _) (u u' : _) → note.Learnt κs x r u → note.Learnt κs x r' u' → r ≡ r'
note_one κs x r r' u u' e e' = e ∙ sym e'

pub note_log_one : (κs : _) (x : _) (r r' : _) (u u' : _) → note_log.Learnt κs x r u → note_log.Learnt κs x r' u' → r ≡ r'
note_log_one κs x r r' u u' e e' = e ∙ sym e'

pub note_texts_one : (κs : _) (x : _) (r r' : _) (u u' : _) → note_texts.Learnt κs x r u → note_texts.Learnt κs x r' u' → r ≡ r'
note_texts_one κs x r r' u u' e e' = e ∙ sym e'

pub write_sheet_one : (κs : _) (x : _) (r r' : _) (u u' : _) → write_sheet.Learnt κs x r u → write_sheet.Learnt κs x r' u' → (r ≡ r') × (u.1.0.now ≡ u'.1.0.now)
write_sheet_one κs x r r' u u' e e' = (e.0 ∙ sym e'.0, e.1 ∙ sym e'.1)

pub any_day : ((κs : _) (x : _) → note.Asked κs x) × ((κs : _) (x : _) → note_log.Asked κs x) × ((κs : _) (x : _) → note_texts.Asked κs x) × ((κs : _) (x : _) → write_sheet.Asked κs x)
any_day = (λ κs x. tt, λ κs x. tt, λ κs x. tt, λ κs x. tt)
