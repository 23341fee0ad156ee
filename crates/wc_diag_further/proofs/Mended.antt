-- Bytes taken out of parts of a text are taken out of the text, and those taken out twice are taken out once.
use Rattle.std.proofs.Common.{◌≡◌, ◌==◌, ◌∙◌, ℕ, Bool, true, false, List, [], ◌∷◌, ◌++◌, Result, Ok, Err, append_assoc, drop, length, map, take, if◌then◌else◌, refl}
use Rattle.wc_model.proofs.Common.{OnOk, is_ok, take_at}
use Rattle.wc_diag_further.specs.Further.{IsByteMended, IsMended, IsMendedAs, IsMendedPlate, blank_of, kept, taken}

-- a text of which nothing is taken out
pub mended_not : (text : List ℕ) → IsMended text text
unfolding IsMended
mended_not [] = tt
mended_not (byte ∷ text) = (kept, mended_not text)

-- one of which all is taken out
pub mended_all : (text : List ℕ) → IsMended text (map blank_of text)
unfolding IsMended
mended_all [] = tt
mended_all (byte ∷ text) = (taken, mended_all text)

-- parts that are put together
pub mended_parts : (a b c d : List ℕ) → IsMended a b → IsMended c d → IsMended (a ++ c) (b ++ d)
unfolding IsMended
mended_parts [] [] c d x y = y
mended_parts [] (i ∷ b) c d x y = absurd x
mended_parts (i ∷ a) [] c d x y = absurd x
mended_parts (i ∷ a) (j ∷ b) c d x y = (x.0, mended_parts a b c d x.1 y)

-- a slice of which all is taken out
pub mended_slice : (text front rest slice back new : List ℕ) → text ≡ front ++ rest → rest ≡ slice ++ back → new ≡ map blank_of slice → IsMended text (front ++ (new ++ back))
mended_slice text front rest slice back new a b c =
    rw (a, b, c) (mended_parts front front (slice ++ back) (map blank_of slice ++ back) (mended_not front)
    (mended_parts slice (map blank_of slice) back back (mended_all slice) (mended_not back)))

-- what is taken out stays so
blank_twice : (byte : ℕ) → blank_of (blank_of byte) ≡ blank_of byte
blank_twice byte = by_test (byte == 10)
  where
    by_test : (b : Bool) → blank_of (if b then 10 else 32) ≡ (if b then 10 else 32)
    by_test true = refl
    by_test false = refl

byte_again : (a b c : ℕ) → IsByteMended a b → IsByteMended b c → IsByteMended a c
byte_again a b c kept y = y
byte_again a b c taken kept = taken
byte_again a b c taken taken = rw (blank_twice a) taken

-- a text of which more is taken out
pub mended_again : (a b c : List ℕ) → IsMended a b → IsMended b c → IsMended a c
unfolding IsMended
mended_again [] [] [] x y = tt
mended_again [] [] (k ∷ c) x y = absurd y
mended_again [] (j ∷ b) c x y = absurd x
mended_again (i ∷ a) [] c x y = absurd x
mended_again (i ∷ a) (j ∷ b) [] x y = absurd y
mended_again (i ∷ a) (j ∷ b) (k ∷ c) x y = (byte_again i j k x.0 y.0, mended_again a b c x.1 y.1)

-- a line feed is not taken out
line_feed_stays : (byte : ℕ) → IsByteMended 10 byte → byte ≡ 10
line_feed_stays byte kept = refl
line_feed_stays byte taken = refl

-- a plate without more lines
plate_mended : (a b : List ℕ) → IsMended a b → IsMendedPlate a b
unfolding IsMended IsMendedPlate
plate_mended [] [] x = tt
plate_mended [] (j ∷ b) x = absurd x
plate_mended (i ∷ a) [] x = absurd x
plate_mended (i ∷ a) (j ∷ b) x = (x.0, plate_mended a b x.1)

-- one with more lines
plate_completed : (text lines : List ℕ) → IsMendedPlate text (text ++ (10 ∷ lines))
unfolding IsMendedPlate
plate_completed [] lines = refl
plate_completed (byte ∷ text) lines = (kept, plate_completed text lines)

-- one of which more is taken out
plate_again : (a b c : List ℕ) → IsMendedPlate a b → IsMendedPlate b c → IsMendedPlate a c
unfolding IsMendedPlate
plate_again [] [] c x y = y
plate_again [] (j ∷ b) [] x y = absurd y
plate_again [] (j ∷ b) (k ∷ c) x y = line_feed_stays k (rw x at y.0)
plate_again (i ∷ a) [] c x y = absurd x
plate_again (i ∷ a) (j ∷ b) [] x y = absurd y
plate_again (i ∷ a) (j ∷ b) (k ∷ c) x y = (byte_again i j k x.0 y.0, plate_again a b c x.1 y.1)

-- of either kind
pub mended_as : (is_plate : Bool) (a b : List ℕ) → IsMended a b → IsMendedAs is_plate a b
mended_as true a b x = plate_mended a b x
mended_as false a b x = x

pub mended_as_again : (is_plate : Bool) (a b c : List ℕ) → IsMendedAs is_plate a b → IsMendedAs is_plate b c → IsMendedAs is_plate a c
mended_as_again true a b c x y = plate_again a b c x y
mended_as_again false a b c x y = mended_again a b c x y

-- a plate after which a line is written in four parts, if the last can be
pub mended_line : {E : Type 0} (r : Result (Unit {0}) E) (is_plate : Bool) (text fed named signed given key sign value : List ℕ) → is_plate ≡ true → fed ≡ text ++ (10 ∷ []) → named ≡ fed ++ key → signed ≡ named ++ sign
    → given ≡ (if is_ok r then signed ++ value else signed) → OnOk r (IsMendedAs is_plate text given)
mended_line (Err error) is_plate text fed named signed given key sign value p a b c d = tt
mended_line (Ok done) is_plate text fed named signed given key sign value p a b c d =
    rw (p, d, c, b, a, append_assoc text (10 ∷ []) key, append_assoc text (10 ∷ key) sign, append_assoc text (10 ∷ (key ++ sign)) value) (plate_completed text ((key ++ sign) ++ value))

-- the bytes of a whole text are taken out, and then it is mended
pub mended_then : (is_plate : Bool) (long : ℕ) (text slice new given : List ℕ) → length new ≡ length slice → length slice ≡ long → slice ≡ text → IsMended slice new
    → IsMendedAs is_plate (take long (new ++ drop (length new) text)) given → IsMendedAs is_plate text given
mended_then is_plate long text slice new given same whole is x y =
    mended_as_again is_plate text new given (mended_as is_plate text new (rw is at x)) (rw (take_at new (drop (length new) text) long (same ∙ whole)) at y)
