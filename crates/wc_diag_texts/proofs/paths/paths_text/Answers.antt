use Rattle.wc_diag_texts.proofs.paths.paths_text.Goals as goal

pub returns-in-Two : goal.returns-in-Two
returns-in-Two c = rw c.in-Two.is c.format.ensures.ok

pub returns-in-Unsure : goal.returns-in-Unsure
returns-in-Unsure c = rw c.in-Unsure.is c.format-in-Unsure.ensures.ok
