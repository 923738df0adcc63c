use Rattle.std.proofs.Common.{refl}
use Rattle.rb_stream.proofs.NextLaws.{if_fed}
use Rattle.rb_stream.proofs.decoder.Decoder.feed.Goals as goal

pub returns-clause-ok : goal.returns-clause-ok
returns-clause-ok c = if_fed c.push.result c.args.self.now _ c.args.piece.now c.push.ensures.ok refl refl refl refl refl refl
