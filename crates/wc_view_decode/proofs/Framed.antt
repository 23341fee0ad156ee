-- What twenty bytes are, by what is in the places of an answer's fields.
use Rattle.std.proofs.Common.{◌≡◌, ◌+◌, ◌↔◌, ℕ, Bool, true, false, List, [], ◌∷◌, ◌++◌, length, get_or, take, drop, sym, ◌∙◌, ap, subst, arith, length-append, Option, Some, None}
use Rattle.wc_model.proofs.Common.{take-append_seam, take-append-drop, list_all}
use Rattle.std.proofs.lemmas.Bool.{true≢false}
use Rattle.wc_view_decode.proofs.AnswerFields.{fields_of, frame_of, rebuilt, same_reading, unit_length, weight_of_frame}
use Rattle.wc_view_decode.specs.AnswerBytes.{IsAnswer, answer_bytes, is_framed, is_weight_byte, reading_bytes, IsAnswerOf, IsFirstAnswer}
use Rattle.wc_view_decode.specs.declared.answer.LineAnswer.{LineAnswer}
use Rattle.wc_view_decode.specs.declared.answer.LineAnswer.TheVariants.{Weight, NotUnderstood}
use Rattle.wc_view_decode.specs.declared.answer.WeightAnswer.{WeightAnswer}
use Rattle.wc_sma.specs.Letters.{kind_letter, motion_letter, status_letter, unit_letters}
use Rattle.wc_sma.specs.declared.letters.MassUnit.{MassUnit}
use Rattle.wc_sma.specs.declared.letters.Status.{Status}
use Rattle.wc_sma.specs.declared.letters.WeightKind.{WeightKind}

-- a value that is found is the one
same_value : {X : Type 0} (x y : X) → Some x ≡ Some y → x ≡ y
same_value x y e = cc

-- twenty bytes that have not what all answers with a weight have are not one
pub not_framed : (frame : List ℕ) → length frame ≡ 20 → is_framed frame ≡ false → (answer : LineAnswer) → IsAnswer answer → ¬ (frame ≡ answer_bytes answer)
not_framed frame size never (Weight x) ok e = true≢false (sym (frame_of frame x ok e) ∙ never)
not_framed frame size never NotUnderstood ok e = omega (arith, size, ap length e)

-- nor are bytes in which a unit is missing
pub no_unit : (frame : List ℕ) (unit : Option MassUnit) → length frame ≡ 20 → ((x : MassUnit) → (take 3 (drop 16 frame) ≡ unit_letters x) ↔ (unit ≡ Some x))
    → ((x : MassUnit) → unit ≡ Some x → ⊥) → (answer : LineAnswer) → IsAnswer answer → ¬ (frame ≡ answer_bytes answer)
no_unit frame unit size is_unit never (Weight x) ok e = never x.unit ((is_unit x.unit).0 (fields_of frame x ok.0 e).unit)
no_unit frame unit size is_unit never NotUnderstood ok e = omega (arith, size, ap length e)

module _ (frame : List ℕ) (size : length frame ≡ 20) (status : Option Status) (kind : Option WeightKind) (motion : Option Bool) (unit : Option MassUnit)
    (is_status : (x : Status) → (get_or frame 1 0 ≡ status_letter x) ↔ (status ≡ Some x))
    (is_kind : (x : WeightKind) → (get_or frame 3 0 ≡ kind_letter x) ↔ (kind ≡ Some x))
    (is_motion : (x : Bool) → (get_or frame 4 0 ≡ motion_letter x) ↔ (motion ≡ Some x))
    (is_unit : (x : MassUnit) → (take 3 (drop 16 frame) ≡ unit_letters x) ↔ (unit ≡ Some x)) where
  -- the fields of a reading whose bytes these are are found
  found_of : (x : WeightAnswer) → IsAnswer (Weight x) → frame ≡ reading_bytes x
      → (status ≡ Some x.status) × (kind ≡ Some x.kind) × (motion ≡ Some x.is_stable) × (unit ≡ Some x.unit) × (take 10 (drop 6 frame) ≡ x.weight)
  found_of x ok e =
      let has = fields_of frame x ok.0 e in
      ((is_status x.status).0 has.status, (is_kind x.kind).0 has.kind, (is_motion x.is_stable).0 has.motion, (is_unit x.unit).0 has.unit, has.weight)

  -- if all are found, the reading of them is the only one
  pub all_found : (r : WeightAnswer) → is_framed frame ≡ true → status ≡ Some r.status → kind ≡ Some r.kind → motion ≡ Some r.is_stable → unit ≡ Some r.unit
      → r.weight ≡ take 10 (drop 6 frame) → length r.weight ≡ 10 → IsAnswerOf (Some (Weight r)) frame
  all_found r framed s k m u w ten = (
    (ten, ap (list_all is_weight_byte) w ∙ weight_of_frame frame framed),
    rebuilt frame r size framed (record {
      status = (is_status r.status).1 s;
      kind = (is_kind r.kind).1 k;
      motion = (is_motion r.is_stable).1 m;
      weight = sym w;
      unit = (is_unit r.unit).1 u;
    }),
    only,
  )
    where
      only : (other : LineAnswer) → IsAnswer other → frame ≡ answer_bytes other → Weight r ≡ other
      only (Weight x) ok e =
          let found = found_of x ok e in
          ap (λ y. Weight y) (same_reading r x (same_value r.status x.status (sym s ∙ found.0)) (same_value r.kind x.kind (sym k ∙ found.1))
          (same_value r.is_stable x.is_stable (sym m ∙ found.2)) (w ∙ found.4) (same_value r.unit x.unit (sym u ∙ found.3)))
      only NotUnderstood ok e = absurd (omega (arith, size, ap length e))

-- an answer with a weight has twenty
pub reading_length : (r : WeightAnswer) → length r.weight ≡ 10 → length (reading_bytes r) ≡ 20
reading_length r size =
    omega (arith, size, unit_length r.unit, length-append (r.weight ++ unit_letters r.unit) (13 ∷ []), length-append r.weight (unit_letters r.unit))

-- the bytes of an answer with a weight, before others, are in the first twenty
pub prefix_of_reading : (bytes rest : List ℕ) (x : WeightAnswer) → length x.weight ≡ 10 → bytes ≡ reading_bytes x ++ rest → take 20 bytes ≡ reading_bytes x
prefix_of_reading bytes rest x size e =
    ap (take 20) e ∙ subst (λ n. take n (reading_bytes x ++ rest) ≡ reading_bytes x) (reading_length x size) (take-append_seam (reading_bytes x) rest)

-- what comes first is what the first twenty bytes are, if it isn't the short answer
pub first_of_twenty : (found : Option LineAnswer) (bytes : List ℕ) → ((rest : List ℕ) → ¬ (bytes ≡ 10 ∷ 63 ∷ 13 ∷ rest)) → IsAnswerOf found (take 20 bytes) → IsFirstAnswer found bytes
first_of_twenty (Some answer) bytes other (ok, e, only) = (
  ok,
  (drop 20 bytes, sym (take-append-drop 20 bytes) ∙ ap (λ prefix. prefix ++ drop 20 bytes) e),
  only_first answer bytes other only,
)
  where
    only_first : (answer : LineAnswer) (bytes : List ℕ) → ((rest : List ℕ) → ¬ (bytes ≡ 10 ∷ 63 ∷ 13 ∷ rest)) → ((one : LineAnswer) → IsAnswer one → take 20 bytes ≡ answer_bytes one → answer ≡ one)
        → (one : LineAnswer) (rest : List ℕ) → IsAnswer one → bytes ≡ answer_bytes one ++ rest → answer ≡ one
    only_first answer bytes other only (Weight x) rest ok e = only (Weight x) ok (prefix_of_reading bytes rest x ok.0 e)
    only_first answer bytes other only NotUnderstood rest ok e = absurd (other rest e)
first_of_twenty None bytes other none = λ answer rest ok e. none_first bytes other none answer rest ok e
  where
    none_first : (bytes : List ℕ) → ((rest : List ℕ) → ¬ (bytes ≡ 10 ∷ 63 ∷ 13 ∷ rest)) → ((one : LineAnswer) → IsAnswer one → ¬ (take 20 bytes ≡ answer_bytes one))
        → (one : LineAnswer) (rest : List ℕ) → IsAnswer one → ¬ (bytes ≡ answer_bytes one ++ rest)
    none_first bytes other none (Weight x) rest ok e = none (Weight x) ok (prefix_of_reading bytes rest x ok.0 e)
    none_first bytes other none NotUnderstood rest ok e = other rest e
