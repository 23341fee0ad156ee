use Rattle.wc_tests_blocks.proofs.stores.put_four.Goals as goal

pub set_four-requires-clause-first : goal.set_four-requires-clause-first
set_four-requires-clause-first g c = rw c.requires (c.fits_at.ensures c.if-fits_at.true)

pub set_four-requires-clause-second : goal.set_four-requires-clause-second
set_four-requires-clause-second g c = rw c.requires (c.fits_at-then-fits_at.ensures c.if-fits_at-2.true)

pub set_four-requires-clause-third : goal.set_four-requires-clause-third
set_four-requires-clause-third g c = rw c.requires (c.fits_at-then-fits_at-2.ensures c.if-fits_at-3.true)

pub set_four-requires-clause-fourth : goal.set_four-requires-clause-fourth
set_four-requires-clause-fourth g c = rw c.requires (c.fits_at-then-fits_at-3.ensures c.if-fits_at-4.true)
