-- How the kind of the result comes to a line, as it is kept from line to line: the incoming paths of a line agree on what they are
-- kept as.
use Rattle.wc_model.proofs.Common.{◌≡◌, Bool, true, false, List, [], ◌∷◌, ◌++◌, Option, None, refl, sym, ap, append_assoc, ◌∙◌, list_all, flat_map}
use Rattle.std.specs.Prelude.{if◌then◌else◌, ◌&&◌}
use Rattle.wc_model.specs.Definitions.{agreed, same_result, BodyLine, Known, jumps_to, kind_after, kind_at, kinds_from_above, kinds_from_jumps, kinds_from_label, known_kinds, label_of, leaves, edges_in, label_rules, line_rules, rules_at_position, Check, first_broken, positions_after, carries, Name, Scope}
use Rattle.wc_model.specs.declared.kind.Kind.{Kind}
use Rattle.wc_laws_language.proofs.Bodies.{same_result-sound}
use Rattle.wc_verify.specs.Bodies.{joined_edges, kind_of_way, way_of, with_way}
use Rattle.wc_verify.specs.declared.edges.Way.TheVariants.{Agreed, Different, Unseen}
use Rattle.wc_verify.specs.declared.edges.Way.{Way}

kept : (all : Bool) (way : Option Kind) → kind_of_way (if all then Agreed way else Different) ≡ (if all then way else None)
kept true way = refl
kept false way = refl

-- what is kept says what they agree on
pub kind_kept : (edges : List (Option Kind)) → agreed edges ≡ kind_of_way (way_of edges)
kind_kept [] = refl
kind_kept (way ∷ edges) = sym (kept (list_all (same_result way) edges) way)

-- whether all of the others bring the same, if the first of them does or does not
same_first : (same others all : Bool) (kind other : Option Kind) → (same ≡ true → kind ≡ other) → (same ≡ true → others ≡ all) → same_result kind other ≡ same →
    (if same && others then Agreed kind else Different) ≡ with_way kind (if all then Agreed other else Different)
same_first true others true kind other is e s = rw (s, e refl) refl
same_first true others false kind other is e s = rw (e refl) refl
same_first false others true kind other is e s = rw s refl
same_first false others false kind other is e s = refl

-- one more path before
pub with_one : (kind : Option Kind) (edges : List (Option Kind)) → way_of (kind ∷ edges) ≡ with_way kind (way_of edges)
with_one kind [] = refl
with_one kind (other ∷ edges) =
    same_first (same_result kind other) (list_all (same_result kind) edges) (list_all (same_result other) edges) kind other (same_result-sound kind other) (λ e. ap (λ k. list_all (same_result k) edges) (same_result-sound kind other e)) refl

pub one_joined : (kind : Option Kind) (edges : List (Option Kind)) → way_of (kind ∷ [] ++ edges) ≡ joined_edges (way_of (kind ∷ [])) (way_of edges)
one_joined kind edges = with_one kind edges

-- the path from above is none or one
none_or_one : (b : Bool) (kind : Option Kind) (edges : List (Option Kind)) → way_of ((if b then [] else kind ∷ []) ++ edges) ≡ joined_edges (way_of (if b then [] else kind ∷ [])) (way_of edges)
none_or_one true kind edges = refl
none_or_one false kind edges = one_joined kind edges

above_joined : (scope : Scope) (earlier : List Known) (edges : List (Option Kind)) → way_of (kinds_from_above scope earlier ++ edges) ≡ joined_edges (way_of (kinds_from_above scope earlier)) (way_of edges)
above_joined scope [] edges = one_joined None edges
above_joined scope (known ∷ earlier) edges = none_or_one (leaves known.line) (kind_after scope known.line known.before) edges

-- the kind at a line, from what is kept
pub kind_here : (scope : Scope) (before : List BodyLine) (line : BodyLine) (above others : Way) → way_of (kinds_from_above scope (known_kinds scope before)) ≡ above →
    way_of (kinds_from_label (label_of line) (known_kinds scope before)) ≡ others → kind_at scope before line ≡ kind_of_way (joined_edges above others)
kind_here scope before line above others e o =
    kind_kept (edges_in scope (known_kinds scope before) line) ∙ ap kind_of_way (above_joined scope (known_kinds scope before) (kinds_from_label (label_of line) (known_kinds scope before)))
    ∙ (λ i. kind_of_way (joined_edges (e i) (o i)))

-- what a line passes on
handed : (b : Bool) (kind : Option Kind) → way_of (if b then [] else kind ∷ []) ≡ (if b then Unseen else Agreed kind)
handed true kind = refl
handed false kind = refl

pub above_next : (scope : Scope) (before : List BodyLine) (line : BodyLine) →
    way_of (kinds_from_above scope (known_kinds scope (line ∷ before))) ≡ (if leaves line then Unseen else Agreed (kind_after scope line (kind_at scope before line)))
above_next scope before line = handed (leaves line) (kind_after scope line (kind_at scope before line))

-- the jumps to a label after a line: the line may carry it, and may jump to it
jumped : (j c : Bool) (kind : Option Kind) (edges : List (Option Kind)) →
    way_of ((if j then kind ∷ [] else []) ++ (if c then [] else edges)) ≡ (if j then with_way kind (if c then Unseen else way_of edges) else (if c then Unseen else way_of edges))
jumped true true kind edges = with_one kind []
jumped true false kind edges = with_one kind edges
jumped false true kind edges = refl
jumped false false kind edges = refl

pub jumps_next : (scope : Scope) (before : List BodyLine) (line : BodyLine) (name : Name) →
    way_of (kinds_from_jumps name (known_kinds scope (line ∷ before)))
    ≡ (if jumps_to line name then with_way (kind_at scope before line) (if carries (label_of line) name then Unseen else way_of (kinds_from_jumps name (known_kinds scope before)))
    else (if carries (label_of line) name then Unseen else way_of (kinds_from_jumps name (known_kinds scope before))))
jumps_next scope before line name = jumped (jumps_to line name) (carries (label_of line) name) (kind_at scope before line) (kinds_from_jumps name (known_kinds scope before))

-- what is asked of a line, and then of those after it
pub line_asked : (scope : Scope) (before : List BodyLine) (line : BodyLine) (left : List BodyLine) (rest : List Check) →
    first_broken (flat_map (rules_at_position scope) (positions_after before (line ∷ left)) ++ rest)
    ≡ first_broken (label_rules before (label_of line) ++ (line_rules scope line left (kind_at scope before line) ++ (flat_map (rules_at_position scope) (positions_after (line ∷ before) left) ++ rest)))
line_asked scope before line left rest =
    ap first_broken (regrouped (label_rules before (label_of line)) (line_rules scope line left (kind_at scope before line)) (flat_map (rules_at_position scope) (positions_after (line ∷ before) left)) rest)
  where
    regrouped : (a b c d : List Check) → ((a ++ b) ++ c) ++ d ≡ a ++ (b ++ (c ++ d))
    regrouped a b c d = simp append_assoc
