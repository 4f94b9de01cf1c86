use Rattle.std.proofs.Common.{◌≡◌, ◌<◌, ◌^◌, drop}
use Rattle.elf_load.specs.Hexadecimal.{number_from}
use Rattle.elf_load.proofs.hexadecimal.word_in.Given as goal

abbrev pub invariant-digits : goal.invariant-digits
invariant-digits l = record {
  same : number_from l.number (drop l.byte-index l.text) ≡ number_from 0 l.text;
  small : l.number < 16 ^ l.byte-index;
}
