use Rattle.wc_text_bodies.proofs.bodies.add_shape.Goals as goal

pub returns-in-Instructs-clause-following : goal.returns-in-Instructs-clause-following
returns-in-Instructs-clause-following c = rw c.in-Instructs.is c.add_step.ensures.following

pub returns-in-Opens-clause-following : goal.returns-in-Opens-clause-following
returns-in-Opens-clause-following c = rw c.in-Opens.is c.add_opening.ensures.following
