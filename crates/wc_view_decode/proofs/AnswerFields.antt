-- The places of an answer's fields.
use Rattle.wc_model.proofs.Common.{◌≡◌, ◌+◌, ◌-◌, ◌==◌, ◌&&◌, ℕ, Bool, true, List, [], ◌∷◌, ◌++◌, length, get_or, take, drop, refl, sym, ◌∙◌, ap, subst, arith, and_parts, eqb-true, length-drop, length-take-le, take-append-drop, list_all}
use Rattle.wc_view_decode.specs.AnswerBytes.{IsAnswer, is_framed, is_weight_byte, reading_bytes}
use Rattle.wc_view_decode.specs.declared.answer.LineAnswer.TheVariants.{Weight}
use Rattle.wc_view_decode.specs.declared.answer.WeightAnswer.{WeightAnswer}
use Rattle.wc_sma.specs.Letters.{kind_letter, motion_letter, status_letter, unit_letters}
use Rattle.wc_sma.specs.declared.letters.MassUnit.{MassUnit}
use Rattle.wc_sma.specs.declared.letters.MassUnit.TheVariants.{Gram, Kilogram, Tonne}

-- a list of three
three : (u : List ℕ) → length u ≡ 3 → u ≡ get_or u 0 0 ∷ get_or u 1 0 ∷ get_or u 2 0 ∷ []
three (a ∷ b ∷ c ∷ []) e = refl
three u e = absurd (omega (arith, e))

-- a list of ten
ten : (w : List ℕ) → length w ≡ 10 → w ≡ get_or w 0 0 ∷ get_or w 1 0 ∷ get_or w 2 0 ∷ get_or w 3 0 ∷ get_or w 4 0 ∷ get_or w 5 0 ∷ get_or w 6 0 ∷ get_or w 7 0 ∷ get_or w 8 0 ∷ get_or w 9 0 ∷ []
ten (a ∷ b ∷ c ∷ d ∷ e ∷ f ∷ g ∷ h ∷ i ∷ j ∷ []) size = refl
ten w size = absurd (omega (arith, size))

-- a unit has three bytes
pub unit_length : (unit : MassUnit) → length (unit_letters unit) ≡ 3
unit_length Gram = refl
unit_length Kilogram = refl
unit_length Tonne = refl

-- each field of a reading is in its place
pub record HasFields (frame : List ℕ) (r : WeightAnswer) : Type 0 where
  pub status : get_or frame 1 0 ≡ status_letter r.status
  pub kind : get_or frame 3 0 ≡ kind_letter r.kind
  pub motion : get_or frame 4 0 ≡ motion_letter r.is_stable
  pub weight : take 10 (drop 6 frame) ≡ r.weight
  pub unit : take 3 (drop 16 frame) ≡ unit_letters r.unit

-- the places of weight, unit and end, whatever the letters are
abbrev HasTail : (s k m : ℕ) (w u : List ℕ) → Type 0
HasTail s k m w u =
    (take 10 (drop 6 (10 ∷ s ∷ 49 ∷ k ∷ m ∷ 32 ∷ (w ++ u ++ (13 ∷ [])))) ≡ w)
    × (take 3 (drop 16 (10 ∷ s ∷ 49 ∷ k ∷ m ∷ 32 ∷ (w ++ u ++ (13 ∷ [])))) ≡ u)
    × (get_or (10 ∷ s ∷ 49 ∷ k ∷ m ∷ 32 ∷ (w ++ u ++ (13 ∷ []))) 19 0 ≡ 13)

tail_places : (s k m : ℕ) (w u : List ℕ) → length w ≡ 10 → length u ≡ 3 → HasTail s k m w u
tail_places s k m w u size sizeu =
    subst (λ v. HasTail s k m v u) (sym (ten w size))
    (subst (λ v. HasTail s k m (get_or w 0 0 ∷ get_or w 1 0 ∷ get_or w 2 0 ∷ get_or w 3 0 ∷ get_or w 4 0 ∷ get_or w 5 0 ∷ get_or w 6 0 ∷ get_or w 7 0 ∷ get_or w 8 0 ∷ get_or w 9 0 ∷ []) v) (sym (three u sizeu))
    (refl, refl, refl))

-- the bytes of a reading have its fields
pub fields_of : (frame : List ℕ) (r : WeightAnswer) → length r.weight ≡ 10 → frame ≡ reading_bytes r → HasFields frame r
fields_of frame r size e =
    let tail = tail_places (status_letter r.status) (kind_letter r.kind) (motion_letter r.is_stable) r.weight (unit_letters r.unit) size (unit_length r.unit) in
    record {
      status = ap (λ f. get_or f 1 0) e;
      kind = ap (λ f. get_or f 3 0) e;
      motion = ap (λ f. get_or f 4 0) e;
      weight = ap (λ f. take 10 (drop 6 f)) e ∙ tail.0;
      unit = ap (λ f. take 3 (drop 16 f)) e ∙ tail.1;
    }

-- and what all have
pub frame_of : (frame : List ℕ) (r : WeightAnswer) → IsAnswer (Weight r) → frame ≡ reading_bytes r → is_framed frame ≡ true
frame_of frame r (size, bytes) e =
    let tail = tail_places (status_letter r.status) (kind_letter r.kind) (motion_letter r.is_stable) r.weight (unit_letters r.unit) size (unit_length r.unit) in
    let weight : list_all is_weight_byte (take 10 (drop 6 (reading_bytes r))) ≡ true = ap (list_all is_weight_byte) tail.0 ∙ bytes in
    ap is_framed e ∙ (λ i. (10 == 10) && (49 == 49) && (32 == 32) && (tail.2 i == 13) && weight i)

-- what that is, byte by byte
record HasFrame (frame : List ℕ) : Type 0 where
  first : get_or frame 0 0 ≡ 10
  third : get_or frame 2 0 ≡ 49
  sixth : get_or frame 5 0 ≡ 32
  last : get_or frame 19 0 ≡ 13

has_frame : (frame : List ℕ) → is_framed frame ≡ true → HasFrame frame
has_frame frame h =
    let a : Bool = get_or frame 0 0 == 10 in
    let b : Bool = get_or frame 2 0 == 49 in
    let c : Bool = get_or frame 5 0 == 32 in
    let d : Bool = get_or frame 19 0 == 13 in
    let p = and_parts (a && b && c && d) (list_all is_weight_byte (take 10 (drop 6 frame))) h in
    let q = and_parts (a && b && c) d p.0 in
    let r = and_parts (a && b) c q.0 in
    let s = and_parts a b r.0 in
    record {
      first = eqb-true (get_or frame 0 0) 10 s.0;
      third = eqb-true (get_or frame 2 0) 49 s.1;
      sixth = eqb-true (get_or frame 5 0) 32 r.1;
      last = eqb-true (get_or frame 19 0) 13 q.1;
    }

-- the bytes of its weight
pub weight_of_frame : (frame : List ℕ) → is_framed frame ≡ true → list_all is_weight_byte (take 10 (drop 6 frame)) ≡ true
weight_of_frame frame h =
    (and_parts (get_or frame 0 0 == 10 && get_or frame 2 0 == 49 && get_or frame 5 0 == 32 && get_or frame 19 0 == 13) (list_all is_weight_byte (take 10 (drop 6 frame))) h).1

-- twenty bytes with these are those of the reading
abbrev Rebuilds : List ℕ → WeightAnswer → Type 0
Rebuilds frame r = HasFrame frame → HasFields frame r → frame ≡ reading_bytes r

rebuilds : (frame : List ℕ) (r : WeightAnswer) → length frame ≡ 20 → Rebuilds frame r
rebuilds frame r size =
    let a : List ℕ = take 10 frame in
    let b : List ℕ = drop 10 frame in
    let size_a : length a ≡ 10 = length-take-le 10 frame (omega (arith, size)) in
    let size_b : length b ≡ 10 = length-drop 10 frame ∙ omega (arith, size) in
    subst (λ f. Rebuilds f r) (take-append-drop 10 frame)
    (subst (λ f. Rebuilds (f ++ b) r) (sym (ten a size_a))
    (subst (λ f. Rebuilds ((get_or a 0 0 ∷ get_or a 1 0 ∷ get_or a 2 0 ∷ get_or a 3 0 ∷ get_or a 4 0 ∷ get_or a 5 0 ∷ get_or a 6 0 ∷ get_or a 7 0 ∷ get_or a 8 0 ∷ get_or a 9 0 ∷ []) ++ f) r) (sym (ten b size_b))
    (λ framed has i.
    framed.first i ∷ has.status i ∷ framed.third i ∷ has.kind i ∷ has.motion i ∷ framed.sixth i ∷ (has.weight i ++ has.unit i ++ (framed.last i ∷ [])))))

pub rebuilt : (frame : List ℕ) (r : WeightAnswer) → length frame ≡ 20 → is_framed frame ≡ true → HasFields frame r → frame ≡ reading_bytes r
rebuilt frame r size framed has = rebuilds frame r size (has_frame frame framed) has

-- readings with the same fields
pub same_reading : (a b : WeightAnswer) → a.status ≡ b.status → a.kind ≡ b.kind → a.is_stable ≡ b.is_stable → a.weight ≡ b.weight → a.unit ≡ b.unit → a ≡ b
same_reading a b es ek em ew eu = λ i. record { status = es i; kind = ek i; is_stable = em i; weight = ew i; unit = eu i }
