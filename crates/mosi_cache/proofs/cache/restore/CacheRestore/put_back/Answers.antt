use Rattle.std.proofs.Common.{refl}
use Rattle.mosi_cache.proofs.Held.{fits-held, fits-changed}
use Rattle.mosi_cache.proofs.cache.restore.CacheRestore.put_back.Goals as goal

pub returns-in-Owned-clause-fits : goal.returns-in-Owned-clause-fits
returns-in-Owned-clause-fits c = fits-held c.hold.new.self c.hold.ensures.fits

pub returns-in-Owned-clause-room : goal.returns-in-Owned-clause-room
returns-in-Owned-clause-room c = λ map f. fits-changed c.args.self.now c.hold.new.self c.args.block _ map c.hold.ensures.cache refl f
