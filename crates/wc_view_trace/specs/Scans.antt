-- The object of a scan. (RFC 8259; its members are the profile's own.)
use Rattle.std.specs.Prelude.{◌≡◌, ℕ, Bool, List, [], ◌∷◌, ◌++◌, codes, length, if◌then◌else◌, flat_map}
use Rattle.json.specs.Lex as lex
use Rattle.json.specs.Print.{print}
use Rattle.json.specs.Token as json
use Rattle.json.specs.Token.{Token}
use Rattle.wc_machine.specs.Machines.{MachineState, text_of}
use Rattle.wc_machine.specs.declared.seen.SeenLine.{SeenLine}
use Rattle.wc_model.specs.Language.Paths.{IsProgramBound}
use Rattle.wc_model.specs.declared.image.Outputs.{Outputs}
use Rattle.wc_view_trace.specs.Members.{Image, IsImage, image_tokens, integers_member, number_member}
use Rattle.wc_view_trace.specs.Items.{item_tokens}
use Rattle.wc_view_trace_rows.specs.Scans.{AreItems}
use Rattle.wc_view_trace_rows.specs.declared.item.Item.{Item}
use Rattle.wc_view_trace_rows.specs.declared.legend.Legend.{Legend}
use Rattle.wc_view_trace_rows.specs.declared.shown_scan.ShownScan.{ShownScan}

-- which program a scan ran, the first or the next
abbrev pub program_of : Bool → ℕ
program_of is_changed = if is_changed then 2 else 1

-- the number of a scan, its moment, and which program it ran
abbrev pub head_tokens : ShownScan → List Token
head_tokens scan =
    json.begin_object ∷ (number_member (codes "scan") scan.number ++ (number_member (codes "ms") scan.ms ++ number_member (codes "program") (program_of scan.is_changed)))

abbrev pub items_tokens : Legend → List Item → List Token
items_tokens legend items = json.key (codes "items") ∷ json.begin_array ∷ (flat_map (item_tokens legend) items ++ json.end_array ∷ [])

-- each item of a scan is written as an object, in order; so as an array
abbrev pub WritesItems : Legend → MachineState → List SeenLine → List Token → List Token → Type 0
WritesItems legend machine lines old new = (items : List Item) × AreItems legend machine lines items × (new ≡ old ++ flat_map (item_tokens legend) items)

abbrev pub WritesArray : Legend → MachineState → List SeenLine → List Token → List Token → Type 0
WritesArray legend machine lines old new = (items : List Item) × AreItems legend machine lines items × (new ≡ old ++ items_tokens legend items)

-- the outputs that it left
abbrev pub outputs_tokens : Outputs → List Token
outputs_tokens outputs = number_member (codes "outputs") outputs.bits ++ integers_member (codes "words") outputs.words

-- the items that it executed and the most that one executes, and the outputs
abbrev pub tail_tokens : ℕ → ℕ → Outputs → List Token
tail_tokens steps bound outputs = number_member (codes "steps") steps ++ (number_member (codes "bound") bound ++ (outputs_tokens outputs ++ json.end_object ∷ []))

-- its head, the image that it saw, the items that it executed, in order, and its tail
pub record AreScanTokens (legend : Legend) (machine : MachineState) (scan : ShownScan) (tokens : List Token) : Type 0 where
  pub image : Image
  pub image_is : IsImage machine image
  pub items : List Item
  pub items_are : AreItems legend machine scan.lines.now items
  pub bound : ℕ
  pub bounds : IsProgramBound (text_of machine) bound
  pub are : tokens ≡ head_tokens scan ++ (image_tokens image ++ (items_tokens legend items ++ tail_tokens (length scan.lines.now) bound scan.outputs))

abbrev pub WritesScan : Legend → MachineState → ShownScan → List Token → List Token → Type 0
WritesScan legend machine scan old new = (tokens : List Token) × AreScanTokens legend machine scan tokens × (new ≡ old ++ tokens)

-- the object of a scan on a line, of which a reader takes these members
pub record IsScanObject (legend : Legend) (machine : MachineState) (scan : ShownScan) (bytes : List ℕ) : Type 0 where
  pub tokens : List Token
  pub tokens_are : AreScanTokens legend machine scan tokens
  pub reads : lex.tokens (print tokens) ≡ tokens
  pub is : bytes ≡ print tokens ++ 10 ∷ []

abbrev pub PutsScan : Legend → MachineState → ShownScan → List ℕ → List ℕ → Type 0
PutsScan legend machine scan old new = (bytes : List ℕ) × IsScanObject legend machine scan bytes × (new ≡ old ++ bytes)

-- the last object: the number of scans that a run had, and of those that were shown
abbrev pub end_tokens : ℕ → ℕ → List Token
end_tokens scans shown = json.begin_object ∷ (number_member (codes "scans") scans ++ (number_member (codes "shown") shown ++ json.end_object ∷ []))

-- it on a line, of which a reader takes these members
pub record IsEndObject (scans shown : ℕ) (bytes : List ℕ) : Type 0 where
  pub reads : lex.tokens (print (end_tokens scans shown)) ≡ end_tokens scans shown
  pub is : bytes ≡ print (end_tokens scans shown) ++ 10 ∷ []

abbrev pub PutsEnd : ℕ → ℕ → List ℕ → List ℕ → Type 0
PutsEnd scans shown old new = (bytes : List ℕ) × IsEndObject scans shown bytes × (new ≡ old ++ bytes)
