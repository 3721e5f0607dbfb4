-- The CID of the library's Default is all zero.
use mathlib.Core.Path.{◌≡◌}
use Rattle.reg_cid.specs.declared.cid.Cid.{Cid}
use Rattle.card.specs.Step.{NO_CARD}

pub zero_cid : (c : Cid) → (c.mid ≡ 0) × ((c.oid ≡ 0) × ((c.pnm ≡ 0) × ((c.prv ≡ 0) × ((c.psn ≡ 0) × (c.mdt ≡ 0))))) → c ≡ NO_CARD.cid
zero_cid c d = λ i. record { mid = d.0 i; oid = d.1.0 i; pnm = d.1.1.0 i; prv = d.1.1.1.0 i; psn = d.1.1.1.1.0 i; mdt = d.1.1.1.1.1 i }
