use Rattle.wc_record.proofs.StatusBits.{six_bits}
use Rattle.wc_record.proofs.process_image.status.Goals as goal

pub returns-clause-reported : goal.returns-clause-reported
returns-clause-reported c =
    λ p history s.
    six_bits _ _ _ _ _ _ _ _ _ _ _ _ _ _ _ _ _ _ c.bit.ensures c.bit-2.ensures c.bit-3.ensures c.bit-4.ensures c.bit-5.ensures c.bit-6.ensures
    (c.stable.ensures p history s) (c.over.ensures p history s) (c.under.ensures p history s) (c.centre.ensures p history s) (c.tare_active.ensures p history s) (c.valid.ensures p history s)
