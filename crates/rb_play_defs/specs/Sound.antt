-- Invariants of a site, which hold at each point of a run.
use Rattle.std.specs.Prelude.{◌≡◌, ◌⊎◌, None, ℕ, ◌+◌, ◌*◌, ◌<◌, ◌≤◌, true, nat_le, length, filter}
use Rattle.std.specs.List.{AllByRecursion}
use Rattle.rb_base.specs.declared.message.Message.{Message}
use Rattle.rb_journal_defs.specs.Journal.{Journal, closed_epochs}
use Rattle.rb_journal_defs.specs.Body.{Shape}
use Rattle.rb_journal_defs.specs.Order.{InOrder, IsClosed, AreAuthored}
use Rattle.rb_message_defs.specs.Message.{bucket_in, IsMessageOf}
use Rattle.rb_message_defs.specs.Nodes.{Nodes, node_at, owner_in, covers, buffered, unacknowledged}
use Rattle.rb_play_defs.specs.Step.{Progress, last_written, needed_of, worth_logging}

-- a message of one of the site's buckets that is a message of its journal
abbrev pub IsOwn : Shape → Journal → Message → Type 0
IsOwn shape journal message = (bucket_in message < shape.buckets) × IsMessageOf shape journal message

-- `buckets` nodes in whole groups, with an owner for each bucket
pub record AreNodes (buckets : ℕ) (site : Nodes) : Type 0 where
  pub some : 0 < site.replicas
  pub nodes : length site.nodes ≡ buckets
  pub owners : length site.owners ≡ buckets
  pub groups : ℕ
  pub whole : groups * site.replicas ≡ buckets

-- a site is sound: its epochs are in order, and each close raised the open epoch by one GCI at
-- most; each change has its author; all sent and received messages are the journal's; the last
-- taken epoch is closed, or none was taken; and the logged bodies are those of all closed epochs up
-- to it that have something to log
pub record IsSound (shape : Shape) (run : Progress) : Type 0 where
  pub order : InOrder run.opened run.journal
  pub near : run.opened ≤ 4294967296 * (length (closed_epochs run.journal) + 1)
  pub authored : AreAuthored shape.site run.journal
  pub some : 0 < shape.buckets
  pub sent : AllByRecursion (λ sent. IsOwn shape run.journal sent.message) run.sent
  pub received : AllByRecursion (IsOwn shape run.journal) run.received
  pub last : (run.last ≡ 0) ⊎ IsClosed run.last run.journal
  pub nodes : AreNodes shape.buckets run.nodes
  pub written : run.written ≡ length (worth_logging shape run.journal (filter (λ epoch. nat_le epoch run.last) (closed_epochs run.journal)))

-- the owner of a bucket is up and has buffered since this epoch or an earlier one, so it holds
-- every message of the bucket that is not acknowledged
pub record CanSendAgain (shape : Shape) (run : Progress) (bucket epoch : ℕ) : Type 0 where
  pub up : (node_at run.nodes (owner_in run.nodes bucket)).up ≡ true
  pub since : (node_at run.nodes (owner_in run.nodes bucket)).since ≤ epoch
  pub has : buffered shape (node_at run.nodes (owner_in run.nodes bucket)).since run.acknowledged run.opened run.journal bucket ≡ unacknowledged shape run.acknowledged run.opened run.journal bucket

-- the owner of each bucket covers
abbrev pub AllCovered : (buckets needed : ℕ) → Nodes → Type 0
AllCovered buckets needed site = (bucket : ℕ) → bucket < buckets → covers needed (node_at site (owner_in site bucket)) ≡ true

-- the nodes were told no epoch above the last written one; and if no group is lost, every owner
-- covers
pub record IsCovered (shape : Shape) (run : Progress) : Type 0 where
  pub told : run.acknowledged ≤ last_written shape run
  pub owners : run.lost ≡ None → AllCovered shape.buckets (needed_of run) run.nodes
