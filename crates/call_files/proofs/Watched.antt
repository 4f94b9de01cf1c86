-- A watched word that fits is one of memory.
use Rattle.std.proofs.Common.{◌≡◌, ℕ, true, Option, Some, None, arith}
use Rattle.std.proofs.lemmas.Bool.Decides.{nat_tests}
use Rattle.option_values.specs.Values.{is_word_address}
use Rattle.command_words.specs.Request.{watch_fits}
use Rattle.script_replay.specs.Played.{IsWord, IsWatchable}

word-is : (address : ℕ) → is_word_address address ≡ true → IsWord address
word-is address e = record { low = grind (arith, nat_tests); high = grind (arith, nat_tests); aligned = grind (arith, nat_tests) }

pub watched_is : (watch : Option ℕ) → watch_fits watch ≡ true → IsWatchable watch
watched_is None e = tt
watched_is (Some address) e = word-is address e
