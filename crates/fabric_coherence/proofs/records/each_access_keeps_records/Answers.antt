use Rattle.fabric_coherence.proofs.Retirements.{load, load_reserved, undone, stored_kept, store_recorded, store_conditional_recorded}
use Rattle.fabric_coherence.proofs.records.each_access_keeps_records.Goals as goal

pub returns-clause-load : goal.returns-clause-load
returns-clause-load c = λ s r n b k can present. (k.0, k.1, load s k.0 r k.1 k.2 n b can present)

pub returns-clause-load_reserved : goal.returns-clause-load_reserved
returns-clause-load_reserved c = λ s r n b k can present. (k.0, k.1, load_reserved s k.0 r k.1 k.2 n b can present)

pub returns-clause-store : goal.returns-clause-store
returns-clause-store c = λ s r n w k can. (k.0, stored_kept s k.0 k.1 n w can, store_recorded s k.0 k.1 n w can r k.2)

pub returns-clause-store_conditional : goal.returns-clause-store_conditional
returns-clause-store_conditional c =
    λ s r n w k can reserved. (k.0, stored_kept s k.0 k.1 n w can, store_conditional_recorded s k.0 k.1 n w can r k.2 reserved)

pub returns-clause-undone : goal.returns-clause-undone
returns-clause-undone c = λ s r n k l. (k.0, k.1, undone s k.0 r k.1 k.2 n l)
