use Rattle.wc_model.proofs.Common.{◌∙◌, ap, sym, option_and_then}
use Rattle.wc_text_flat.specs.Contents.{number_in}
use Rattle.wc_text_variables.proofs.Readings.{reads}
use Rattle.wc_text_variables.specs.Names.{variable_named}
use Rattle.wc_view_watch.proofs.LookUps.{got_there, named_at}
use Rattle.wc_view_watch.proofs.ValueTexts.{no_place}
use Rattle.wc_view_watch.proofs.watched_names.WatchedNames.number.Goals as goal
use Rattle.wc_view_watch.specs.Plans.{names_in, number_named}

pub returns-in-Some-watched : goal.returns-in-Some-watched
returns-in-Some-watched c = λ list text next store looked represents.
    let at = named_at (variable_named text) (number_named text store) c.args.self.now.watched.items (names_in list) c.args.index c.in-Some.watched.now looked.here
    (got_there c.args.index c.in-Some.watched.now c.deref.ensures.value c.in-Some.ensures.lookup.3.0 c.in-Some.ensures.lookup.1) in
    let read = reads text store at.0 c.in-Some-watched.watched represents.slots (at.1 ∙ c.in-Some-watched.is) in
    c.number.ensures text store read.place represents read.number ∙ sym (at.2 ∙ ap (option_and_then (number_in store)) read.is)

pub returns-in-None-watched : goal.returns-in-None-watched
returns-in-None-watched c = λ list text next store looked represents.
    let at = named_at (variable_named text) (number_named text store) c.args.self.now.watched.items (names_in list) c.args.index c.in-Some.watched.now looked.here
    (got_there c.args.index c.in-Some.watched.now c.deref.ensures.value c.in-Some.ensures.lookup.3.0 c.in-Some.ensures.lookup.1) in
    sym (at.2 ∙ ap (option_and_then (number_in store)) (no_place text at.0 (at.1 ∙ c.in-None-watched.is)))
