-- Each standard block: its fields, its calls and what fits a history of them (IEC 61131-3:2003, 2.5.2.3), over a call and over a
-- change of the text between two scans (the profile's own).
use Rattle.std.specs.List.{AllByRecursion, list_any}
use Rattle.std.specs.Prelude.{◌≡◌, ℕ, Bool, List, ◌∷◌, Some, Ok, true, [], ◌++◌}
use Rattle.wc_model.specs.Definitions.{field_at, r_trig_contents, sr_contents, rs_contents, ctu_contents, ton_contents, tof_contents, tp_contents, standard_called, RTrigFields, SrFields, RsFields, CtuFields, TonFields, TofFields, TpFields, SrCall, RsCall, CtuCall, TimerCall, FitsRTrig, FitsSr, FitsRs, FitsCtu, FitsTon, FitsTof, FitsTp, Name, Content, Store, Path, standard_fields, ToField, carried, lead_of, same_name, Text}
use Rattle.wc_model.specs.declared.block.StandardBlock.{StandardBlock}
use Rattle.wc_model.specs.declared.block.StandardBlock.TheVariants.{RTrig, Sr, Rs, Ctu, Ton, Tof, Tp}

-- A block:
--     Fields    its fields
--     Call      a call of it: its inputs, and a timer's moment
--     contents  what the places of its fields hold
--     Fits      fields that are what a history of calls gives, the newest first
--     set_up    fields with the inputs of a call
--     moment    the moment of a call, or any if it has none of its own
pub record BlockHistory : Type 1 where
  pub Fields : Type 0
  pub Call : Type 0
  pub contents : Fields → List (Name × Content)
  pub Fits : List Call → Fields → Type 0
  pub set_up : Call → Fields → Fields
  pub moment : ℕ → Call → ℕ

abbrev pub of_block : StandardBlock → BlockHistory
of_block RTrig = record { Fields = RTrigFields; Call = Bool; contents = r_trig_contents; Fits = FitsRTrig; set_up = λ clk f. record f { clk = clk }; moment = λ now c. now }
of_block Sr = record { Fields = SrFields; Call = SrCall; contents = sr_contents; Fits = FitsSr; set_up = λ c f. record f { s1 = c.s1; r = c.r }; moment = λ now c. now }
of_block Rs = record { Fields = RsFields; Call = RsCall; contents = rs_contents; Fits = FitsRs; set_up = λ c f. record f { s = c.s; r1 = c.r1 }; moment = λ now c. now }
of_block Ctu = record { Fields = CtuFields; Call = CtuCall; contents = ctu_contents; Fits = FitsCtu; set_up = λ c f. record f { cu = c.cu; r = c.r; pv = c.pv }; moment = λ now c. now }
of_block Ton = record { Fields = TonFields; Call = TimerCall; contents = ton_contents; Fits = FitsTon; set_up = λ c f. record f { input = c.input; pt = c.pt }; moment = λ now c. c.moment }
of_block Tof = record { Fields = TofFields; Call = TimerCall; contents = tof_contents; Fits = FitsTof; set_up = λ c f. record f { input = c.input; pt = c.pt }; moment = λ now c. c.moment }
of_block Tp = record { Fields = TpFields; Call = TimerCall; contents = tp_contents; Fits = FitsTp; set_up = λ c f. record f { input = c.input; pt = c.pt }; moment = λ now c. c.moment }

-- the fields of an instance have these contents
abbrev pub Holds : Store → List Name → List (Name × Content) → Type 0
Holds store instance fields = AllByRecursion (λ f. field_at store instance f.0 ≡ Some f.1) fields

-- an instance in a store has a history of calls: the fields that it holds are what these give
pub record HasHistory (store : Store) (instance : List Name) (block : StandardBlock) (calls : List (of_block block).Call) : Type 0 where
  pub fields : (of_block block).Fields
  pub held : Holds store instance ((of_block block).contents fields)
  pub fits : (of_block block).Fits calls fields

-- the other store has the inputs of a call in an instance, and its other fields as the store has them
abbrev pub IsSetUp : Store → Store → List Name → (block : StandardBlock) → (of_block block).Call → Type 0
IsSetUp store other instance block call =
    (fields : (of_block block).Fields) → Holds store instance ((of_block block).contents fields) → Holds other instance ((of_block block).contents ((of_block block).set_up call fields))

-- a call of an instance ends well, and leaves it with this history
pub record IsCalled (now : ℕ) (store : Store) (instance : List Name) (block : StandardBlock) (calls : List (of_block block).Call) : Type 0 where
  pub after : Store
  pub called : standard_called block now store instance ≡ Ok after
  pub history : HasHistory after instance block calls

-- the next call of an instance, whatever its inputs and its moment, leaves it with these calls and this one
abbrev pub AddsTheNextCall : Store → List Name → (block : StandardBlock) → List (of_block block).Call → Type 0
AddsTheNextCall store instance block calls =
    (other : Store) (call : (of_block block).Call) (now : ℕ) → IsSetUp store other instance block call → IsCalled ((of_block block).moment now call) other instance block (call ∷ calls)

-- the next call of an instance adds to the history that it has
abbrev pub ACallAddsToTheHistory : Type 0
ACallAddsToTheHistory = (store : Store) (instance : List Name) (block : StandardBlock) (calls : List (of_block block).Call) →
    HasHistory store instance block calls → AddsTheNextCall store instance block calls

-- the same names lead to an instance of the same standard block in both texts: with the name of one of the block's fields after
-- them they lead into it
pub record KeepsInstance (old new : Text) (instance : List Name) (block : StandardBlock) : Type 0 where
  pub field : Name
  pub named : list_any (λ f. same_name f.0 field) (standard_fields block) ≡ true
  pub before : lead_of old (Path (instance ++ field ∷ [])) ≡ Some (ToField block)
  pub after : lead_of new (Path (instance ++ field ∷ [])) ≡ Some (ToField block)

-- an instance has a history, to which its next call adds
pub record GoesOn (store : Store) (instance : List Name) (block : StandardBlock) (calls : List (of_block block).Call) : Type 0 where
  pub history : HasHistory store instance block calls
  pub next : AddsTheNextCall store instance block calls

-- with the new text and store, the history of each instance goes on that the old text and store have
abbrev pub HistoriesGoOn : Text → Store → Text → Store → Type 0
HistoriesGoOn old before new after = (instance : List Name) (block : StandardBlock) (calls : List (of_block block).Call) →
    KeepsInstance old new instance block → HasHistory before instance block calls → GoesOn after instance block calls

-- so it does at a change, with the store that is carried over
abbrev pub HistoriesGoOnOverAChange : Type 0
HistoriesGoOnOverAChange = (old new : Text) (store : Store) → HistoriesGoOn old store new (carried old store new)
