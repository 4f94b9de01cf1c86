use Rattle.consistent_cuts.proofs.kept.records_are_of_the_list.Goals as goal

pub returns-clause-content : goal.returns-clause-content
returns-clause-content c = λ image s r list trace j. j.sorted.content

pub returns-clause-accesses : goal.returns-clause-accesses
returns-clause-accesses c = λ image s r list trace j. j.sorted.placed

pub returns-clause-reserved : goal.returns-clause-reserved
returns-clause-reserved c = λ image s r list trace j n b k. j.sorted.reserved n k b
