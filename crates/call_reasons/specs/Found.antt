-- What the contracts see of a file that was fetched once more.
use Rattle.sn_io.specs.Outside.{Found, File, TooLong, Missing}
use Rattle.call_reasons.specs.declared.content.Content.{Content}
use Rattle.call_reasons.specs.declared.content.Content.TheVariants as content

abbrev pub found_of : Content → Found
found_of (content.Whole bytes) = File bytes.items
found_of content.Longer = TooLong
found_of content.Missing = Missing
