-- The values of records, one after another.
use Rattle.std.proofs.Common.{◌≡◌, ℕ, ◌+◌, ◌<◌, List, take, length, get_or, All, sym, subst, arith}
use Rattle.std.proofs.lemmas.List.{take_more, take_all}
use Rattle.std.proofs.lemmas.List.Elements.{All-nil, All-push}
use Rattle.rv_core.specs.declared.step.Record.{Record}
use Rattle.sn_text.specs.Written.{HasValues}

pub values-none : (records : List Record) → All HasValues (take 0 records)
values-none records = All-nil HasValues

pub values-next : (records : List Record) (i : ℕ) (taken : Record) → i < length records → taken ≡ get_or records i taken → HasValues taken →
    All HasValues (take i records) → All HasValues (take (i + 1) records)
values-next records i taken below is here before =
    subst (All HasValues) (sym (take_more records i taken below))
    (All-push HasValues (take i records) (get_or records i taken) before (subst HasValues is here))

pub values-all : (records : List Record) (i : ℕ) → length records ≡ i → All HasValues (take i records) → All HasValues records
values-all records i e h = subst (All HasValues) (take_all i records (omega (arith, e))) h
