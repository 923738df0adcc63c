use Rattle.std.proofs.Common.{[], sym, refl, arith}
use Rattle.std.proofs.lemmas.List.{append-nil}
use Rattle.rb_read_defs.specs.Stream.{seen_of}
use Rattle.rb_stream.proofs.NextLaws.{begins, none_at_first, is_ready}
use Rattle.rb_stream.proofs.decoder.Decoder.new.Goals as goal

pub returns : goal.returns
returns c =
    let none = c.new.ensures in record {
      fed = rw none (omega arith);
      seen = ((seen_of c.args.position []).known, sym (append-nil (seen_of c.args.position []).known));
      settled = refl;
      ready = is_ready _ c.args.position [] [] (record { quiet = []; silent = refl; stands = record { fed = rw none (omega arith); on = rw none (begins c.args.position); counted = refl; knows = record { rotated = refl; current = none_at_first } } });
    }
