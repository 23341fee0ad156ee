-- What is said of a slice that is quoted, as it is shown.
use Rattle.std.proofs.Common.{◌≡◌, ◌∙◌, ℕ, List, [], ◌∷◌, ◌++◌, append_assoc, refl, sym, ap, subst}
use Rattle.std.proofs.lemmas.List.{append-nil}
use Rattle.wc_diag_messages.specs.Explanations.{QuotesAndSays, quoted_text}
use Rattle.wc_diag_texts.proofs.OnLines.{one_shown, shown_further}
use Rattle.wc_diag_texts.specs.Plain.{IsShown, shown_text, words_after}

-- words after a mark, if there are any
detailed : (old mark detail words : List ℕ) → IsShown old → words ≡ shown_text detail → IsShown (old ++ words_after (shown_text mark) words)
detailed old mark detail [] was e = subst IsShown (sym (append-nil old)) was
detailed old mark detail (byte ∷ rest) was e =
    let middle = shown_further old (old ++ shown_text mark) mark was refl in
    shown_further (old ++ shown_text mark) (old ++ (shown_text mark ++ (byte ∷ rest))) detail middle
    (sym (append_assoc old (shown_text mark) (byte ∷ rest)) ∙ ap (λ l. old ++ shown_text mark ++ l) e)

-- a sentence, and what follows it
pub quotes : (subject sentence mark detail words start first second all : List ℕ) → words ≡ shown_text detail → start ≡ [] → first ≡ start ++ quoted_text subject → second ≡ first ++ shown_text sentence
    → all ≡ second ++ words_after (shown_text mark) words → QuotesAndSays subject all
quotes subject sentence mark detail words start first second all are none e f g = (
  shown_text sentence ++ words_after (shown_text mark) words,
  detailed (shown_text sentence) mark detail words (one_shown (shown_text sentence) sentence refl) are,
  rw (g, f, e, none, append_assoc (quoted_text subject) (shown_text sentence) (words_after (shown_text mark) words)) refl,
)
