-- Tokens that are appended to others: lines after lines, a line after a position, and the end of a parenthesis.
use Rattle.std.proofs.Common.{◌≡◌, ℕ, List, [], ◌∷◌, ◌++◌, Option, ap, subst, append_assoc, append-nil, ◌∙◌, sym}
use Rattle.wc_laws_grammar.specs.{LineShape, LabelAlone, Instructs, Opens, after_line, after_closing, lines_and}
use Rattle.wc_laws_grammar.proofs.LineRests.{line_of}
use Rattle.wc_laws_grammar.proofs.Languages.{joined, pass, ungroup, after}
use Rattle.wc_model.specs.Definitions.{Setting, InParentheses, HasContent, IsOn, label_in, line_ends, lines, opening, symbol, ◌then◌, one, Mark, ClosingBracket, LineEnd, IsSymbol, Opening, Position, at_line, openings_of, setting_in, Step, Word, Lines, End, Alone, Plain, Nested}

-- what is appended to a sequence is appended to its last part
pub append_last : {T : Type 0} {first second second' : List T → Type 0} {tokens : List T} (more : List T) → ((rest : List T) → second rest → second' (rest ++ more)) → (first then second) tokens → (first then second') (tokens ++ more)
append_last more f h = record {
  prefix = h.prefix;
  rest = h.rest ++ more;
  whole = ap (λ ts. ts ++ more) h.whole ∙ append_assoc h.prefix h.rest more;
  begins = h.begins;
  goes_on = f h.rest h.goes_on;
}

-- line ends after line ends
more_ends : (a b : List Mark) → line_ends a → line_ends b → line_ends (a ++ b)
more_ends [] b ha hb = hb
more_ends (mark ∷ a) b ha hb = (ha.0, more_ends a b ha.1 hb)

-- line ends before what begins with line ends
ends_before : (second : List Mark → Type 0) (a b : List Mark) → line_ends a → (line_ends then second) b → (line_ends then second) (a ++ b)
ends_before second a b ha hb = record {
  prefix = a ++ hb.prefix;
  rest = hb.rest;
  whole = ap (λ ts. a ++ ts) hb.whole ∙ sym (append_assoc a hb.prefix hb.rest);
  begins = more_ends a hb.prefix ha hb.begins;
  goes_on = hb.goes_on;
}

ends_then_lines : (setting : Setting) (ls : Lines) (a b : List Mark) → line_ends a → lines setting ls b → lines setting ls (a ++ b)
ends_then_lines setting End a b ha hb = more_ends a b ha hb
ends_then_lines setting (Alone label rest) a b ha hb = ends_before _ a b ha hb
ends_then_lines setting (Plain label line step rest) a b ha hb = (hb.0, ends_before _ a b ha hb.1)
ends_then_lines setting (Nested label line operator x inside close rest) a b ha hb = (hb.0, ends_before _ a b ha hb.1)

-- lines after lines
pub lines_after : (setting : Setting) (ls others : Lines) (a b : List Mark) → lines setting ls a → lines setting others b → lines setting (lines_and ls others) (a ++ b)
lines_after setting End others a b ha hb = ends_then_lines setting others a b ha hb
lines_after setting (Alone label rest) others a b ha hb =
    append_last b (λ ts k. append_last b (λ us l. append_last b (λ vs m. lines_after setting rest others vs b m hb) l) k) ha
lines_after setting (Plain label line step rest) others a b ha hb =
    (ha.0, append_last b (λ ts k. append_last b (λ us l. append_last b (λ vs m. append_last b (λ ws n. lines_after setting rest others ws b n hb) m) l) k) ha.1)
lines_after setting (Nested label line operator x inside close rest) others a b ha hb =
    (ha.0, append_last b (λ ts k. append_last b (λ us l. append_last b (λ vs m. append_last b (λ ws n. append_last b (λ xs o. append_last b (λ ys q. lines_after setting rest others ys b q hb) o) n) m) l) k) ha.1)

-- nothing after
pub with_nothing : {T : Type 0} {first : List T → Type 0} (second : List T → Type 0) {tokens : List T} → second [] → first tokens → (first then second) tokens
with_nothing second {tokens = tokens} none h = record { prefix = tokens; rest = []; whole = sym (append-nil tokens); begins = h; goes_on = none }

alone_line : (setting : Setting) (label : Word) (b : List Mark) → line_of setting (LabelAlone label) b → lines setting (Alone label End) b
alone_line setting label b h = pass tt (after (λ ts k. with_nothing line_ends tt k) h)

plain_line : (setting : Setting) (label : Option Word) (line : ℕ) (step : Step) (b : List Mark) → line_of setting (Instructs label line step) b → lines setting (Plain label line step End) b
plain_line setting label line step b h = (h.0, pass tt (after (λ ts k. after (λ us l. with_nothing line_ends tt l) k) h.1))

-- a line after a position
pub position_after_line : (p : Position) (line_shape : LineShape) (a b : List Mark) → at_line p a → line_of (setting_in p.openings) line_shape b → at_line (after_line p line_shape) (a ++ b)
position_after_line p (LabelAlone label) a b ha hb =
    append_last b (λ ts k. append_last b (λ us l. append_last b (λ vs m. lines_after (setting_in p.openings) p.done (Alone label End) vs b m (alone_line (setting_in p.openings) label b hb)) l) k) ha
position_after_line p (Instructs label line step) a b ha hb =
    append_last b (λ ts k. append_last b (λ us l. append_last b (λ vs m. lines_after (setting_in p.openings) p.done (Plain label line step End) vs b m (plain_line (setting_in p.openings) label line step b hb)) l) k) ha
position_after_line p (Opens label line operator x) a b ha hb =
    append_last b (λ ts k. append_last b (λ us l. with_nothing line_ends tt (ungroup (joined us b l hb))) k) ha

-- the end of a parenthesis after what it holds
closed_lines : (setting : Setting) (o : Opening) (inside : Lines) (close : ℕ) (a b c d e : List Mark) → lines setting o.before a → (label_in setting o.label then opening o.line o.operator o.operand) b → HasContent o.operand inside
    → lines InParentheses inside c → one (IsOn close (IsSymbol ClosingBracket)) d → symbol LineEnd e → lines setting (lines_and o.before (Nested o.label o.line o.operator o.operand inside close End)) (a ++ (b ++ (c ++ (d ++ e))))
closed_lines setting o inside close a b c d e ha hb content hc hd he =
    lines_after setting o.before (Nested o.label o.line o.operator o.operand inside close End) a _ ha
    (content, pass tt (ungroup (joined b (c ++ (d ++ e)) hb (joined c (d ++ e) hc (joined d e hd (with_nothing line_ends tt he))))))

-- the position after a parenthesis
pub position_after_closing : (p : Position) (o : Opening) (outer : List Opening) (close : ℕ) (a d e : List Mark) → p.openings ≡ o ∷ outer → HasContent o.operand p.done → at_line p a
    → one (IsOn close (IsSymbol ClosingBracket)) d → symbol LineEnd e → at_line (after_closing p o outer close) (a ++ (d ++ e))
position_after_closing p o outer close a d e same content ha hd he =
    append_last (d ++ e) (λ ts k. append_last (d ++ e) (λ us l. closes us (subst (λ os. (openings_of os then lines (setting_in os) p.done) us) same l)) k) ha
  where
    closes : (us : List Mark) → (openings_of (o ∷ outer) then lines InParentheses p.done) us → (openings_of outer then lines (setting_in outer) (lines_and o.before (Nested o.label o.line o.operator o.operand p.done close End))) (us ++ (d ++ e))
    closes us l =
        let m = ungroup l in
        let n = m.goes_on in
        let q = ungroup n in
        record {
          prefix = m.prefix;
          rest = q.prefix ++ (q.goes_on.prefix ++ (q.goes_on.rest ++ (d ++ e)));
          whole = ap (λ ts. ts ++ (d ++ e)) (m.whole ∙ ap (λ ts. m.prefix ++ ts) (q.whole ∙ ap (λ ts. q.prefix ++ ts) q.goes_on.whole)) ∙ append_assoc m.prefix _ (d ++ e) ∙ ap (λ ts. m.prefix ++ ts) (append_assoc q.prefix _ (d ++ e) ∙ ap (λ ts. q.prefix ++ ts) (append_assoc q.goes_on.prefix q.goes_on.rest (d ++ e)));
          begins = m.begins;
          goes_on = closed_lines (setting_in outer) o p.done close q.prefix q.goes_on.prefix q.goes_on.rest d e q.begins q.goes_on.begins content q.goes_on.goes_on hd he;
        }
