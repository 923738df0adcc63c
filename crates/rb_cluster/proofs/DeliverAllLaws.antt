-- The delivery of all messages, one after the other.
use Rattle.std.proofs.Common.{◌≡◌, ℕ, zero, suc, ◌+◌, ◌<◌, ◌≤◌, Bool, cond, List, [], ◌∷◌, length, refl, sym, ap, subst, ◌∙◌, arith, length-append}
use Rattle.std.specs.Prelude.{Some, None, count_by, not, ◌==◌, ◌&&◌, Option}
use Rattle.std.specs.List.{cons_option, slice_get, list_any}
use Rattle.std.proofs.lemmas.List.Sums.{sum_by-cons}
use Rattle.rb_base.specs.declared.message.Sent.{Sent}
use Rattle.rb_base.specs.declared.outcome.Outcome.{Outcome}
use Rattle.rb_base.specs.declared.outcome.Outcome.TheVariants as outcomes
use Rattle.rb_journal_defs.specs.Body.{Shape, numbers_below}
use Rattle.rb_journal_defs.specs.Transaction.{first_of}
use Rattle.rb_journal_defs.proofs.Counts.{filter_length}
use Rattle.rb_message_defs.specs.declared.answers.Received.{Received}
use Rattle.rb_message_defs.specs.declared.answers.Received.TheVariants as answers
use Rattle.rb_message_defs.specs.Nodes.{is_gone}
use Rattle.rb_message_defs.specs.Received.{answer_to, answers_to, with_received}
use Rattle.rb_base.specs.declared.message.Message.{Message}
use Rattle.std.specs.Option.{option_map}
use Rattle.rb_play_defs.specs.Step.{Progress, StepResult, fed_by, answer_outcome, deliver_step, undelivered, messages_at, all_delivered, delivery_of_all, deliver_all_step, is_kept, is_known, is_old, failed_in}
use Rattle.rb_nodes.specs.Net.{Net, HoldsNet, count_in, waiting_in}
use Rattle.rb_cluster.specs.Tally.{sum_of, with_answer}
use Rattle.rb_cluster.specs.Net.{net_of}
use Rattle.rb_cluster.specs.Cluster.{IsCluster}
use Rattle.rb_cluster.specs.declared.cluster.Cluster.{Cluster}
use Rattle.rb_cluster.specs.declared.tally.Tally.{Tally}
use Rattle.rb_message_defs.proofs.Waiting.{waiting_rest, waiting_within}
use Rattle.rb_nodes.proofs.OutboxLaws.{still_waiting, still_waiting_is}
use Rattle.rb_play_defs.proofs.Events.{deliver_there}
use Rattle.rb_nodes.specs.declared.site_nodes.SiteNodes.{SiteNodes}

-- the answers to the messages that wait
abbrev pub waiting_answers : Shape → Progress → List Received
waiting_answers shape run = answers_to (fed_by shape run) (messages_at run.sent (undelivered run))

-- what the answers to the messages that wait add to those that were counted
pub record AreCounted (shape : Shape) (run now : Progress) (tally : Tally) : Type 0 where
  pub kept : tally.kept + count_by is_kept (waiting_answers shape now) ≡ count_by is_kept (waiting_answers shape run)
  pub known : tally.known + count_by is_known (waiting_answers shape now) ≡ count_by is_known (waiting_answers shape run)
  pub old : tally.outdated + count_by is_old (waiting_answers shape now) ≡ count_by is_old (waiting_answers shape run)

-- some of the places that waited are delivered
pub record IsOnTheWay (cluster : Cluster) (tally : Tally) (seen : ℕ → List ℕ) (shape : Shape) (run : Progress) : Type 0 where
  pub now : Progress
  pub held : IsCluster cluster seen shape now
  pub goal : all_delivered shape (undelivered now) now ≡ all_delivered shape (undelivered run) run
  pub counted : AreCounted shape run now tally
  pub few : sum_of tally + length (undelivered now) ≤ length now.sent

numbers_length : (n : ℕ) → length (numbers_below n) ≡ n
numbers_length zero = refl
numbers_length (suc n) = let s = length-append (numbers_below n) (n ∷ []) in let h = numbers_length n in omega arith

-- at the start none is
pub way_begins : (shape : Shape) (seen : ℕ → List ℕ) (run : Progress) (cluster : Cluster) → IsCluster cluster seen shape run → IsOnTheWay cluster (record { kept = 0; known = 0; outdated = 0 }) seen shape run
way_begins shape seen run cluster held = record {
  now = run;
  held = held;
  goal = refl;
  counted = record { kept = omega arith; known = omega arith; old = omega arith };
  few = (let f = filter_length (λ place. not (list_any (λ delivered. delivered == place) run.delivered) && not (is_gone (failed_in run) run.sent place)) (numbers_below (length run.sent)) in let n = numbers_length (length run.sent) in omega arith);
}

-- a cluster with other nodes
abbrev pub with_nodes : Cluster → SiteNodes → Cluster
with_nodes cluster nodes = record cluster { rest = record cluster.rest { nodes = nodes } }

-- what an outbox returns is the first place that waits
pub first_waits : (shape : Shape) (seen : ℕ → List ℕ) (run : Progress) (cluster : Cluster) (tally : Tally) (next : Option ℕ) (way : IsOnTheWay cluster tally seen shape run) →
    ((b : ℕ) (n : Net) → HoldsNet cluster.rest.nodes b n → next ≡ first_of (waiting_in n)) → next ≡ first_of (undelivered way.now)
first_waits shape seen run cluster tally next way first = first shape.buckets (net_of shape way.now) way.held.rest.net

-- what is on its way stays so when the nodes are looked at
abbrev pub way_looked : (shape : Shape) (seen : ℕ → List ℕ) (run : Progress) (old : Cluster) (nodes : SiteNodes) (tally : Tally) → IsOnTheWay old tally seen shape run → ((b : ℕ) (n : Net) → HoldsNet old.rest.nodes b n → HoldsNet nodes b n) →
    IsOnTheWay (with_nodes old nodes) tally seen shape run
way_looked shape seen run old nodes tally way looked = record {
  now = way.now;
  held = record { rest = record { point = way.held.rest.point; books = way.held.rest.books; net = looked shape.buckets (net_of shape way.now) way.held.rest.net }; log = way.held.log };
  goal = way.goal;
  counted = way.counted;
  few = way.few;
}

-- the first of them
first_is : (places : List ℕ) (place : ℕ) → first_of places ≡ Some place → (rest : List ℕ) × (places ≡ place ∷ rest)
first_is [] place same = absurd (let g : None ≡ Some place = same in cc)
first_is (p ∷ places) place same = (places, ap (λ (x : ℕ). x ∷ places) (let g : Some p ≡ Some place = same in cc))

get_within : {X : Type 0} → (xs : List X) (k : ℕ) → k < length xs → (x : X) × (slice_get xs k ≡ Some x)
get_within [] k l = absurd (omega arith)
get_within (x ∷ xs) zero l = (x, refl)
get_within (x ∷ xs) (suc k) l = get_within xs k (omega arith)

-- some place waits first, if one waits
pub next_place : (shape : Shape) (seen : ℕ → List ℕ) (run : Progress) (cluster : Cluster) (tally : Tally) (place : ℕ) (way : IsOnTheWay cluster tally seen shape run) →
    Some place ≡ first_of (undelivered way.now) → (rest : List ℕ) × (undelivered way.now ≡ place ∷ rest)
next_place shape seen run cluster tally place way first = first_is (undelivered way.now) place (sym first)

counts_more : (test : Received → Bool) (before total n : ℕ) (answer : Received) (answers : List Received) → before + count_by test (answer ∷ answers) ≡ total → n ≡ before + cond (test answer) 1 0 → n + count_by test answers ≡ total
counts_more test before total n answer answers whole is =
    let s = sum_by-cons (λ x. cond (test x) 1 0) answer answers in omega arith

kept_more : (answer : Received) (tally : Tally) → (with_answer answer tally).kept ≡ tally.kept + cond (is_kept answer) 1 0
kept_more answers.Kept tally = refl
kept_more answers.Known tally = omega arith
kept_more answers.Old tally = omega arith

known_more : (answer : Received) (tally : Tally) → (with_answer answer tally).known ≡ tally.known + cond (is_known answer) 1 0
known_more answers.Kept tally = omega arith
known_more answers.Known tally = refl
known_more answers.Old tally = omega arith

old_more : (answer : Received) (tally : Tally) → (with_answer answer tally).outdated ≡ tally.outdated + cond (is_old answer) 1 0
old_more answers.Kept tally = omega arith
old_more answers.Known tally = omega arith
old_more answers.Old tally = refl

-- the answer that an outcome tells
answer_told : Outcome → Received
answer_told outcomes.Kept = answers.Kept
answer_told outcomes.Known = answers.Known
answer_told outcome = answers.Old

told_back : (answer : Received) → answer_told (answer_outcome answer) ≡ answer
unfolding answer_told
told_back answers.Kept = refl
told_back answers.Known = refl
told_back answers.Old = refl

sum_more : (answer : Received) (tally : Tally) → sum_of (with_answer answer tally) ≡ sum_of tally + 1
sum_more answers.Kept tally = omega arith
sum_more answers.Known tally = omega arith
sum_more answers.Old tally = omega arith

-- the place is one of those that were sent, and its outcome can be counted
pub place_within : (shape : Shape) (seen : ℕ → List ℕ) (run : Progress) (cluster : Cluster) (tally : Tally) (place : ℕ) (way : IsOnTheWay cluster tally seen shape run) →
    Some place ≡ first_of (undelivered way.now) → place < count_in cluster.rest.nodes
place_within shape seen run cluster tally place way first =
    let next = next_place shape seen run cluster tally place way first in
    let l : place < length way.now.sent = waiting_within (failed_in way.now) way.now.sent place way.now.delivered next.0 next.1 in
    let s : count_in cluster.rest.nodes ≡ length way.now.sent = ap length way.held.rest.net.outbox.sent_is in
    omega arith

pub sum_below : (shape : Shape) (seen : ℕ → List ℕ) (run : Progress) (cluster : Cluster) (tally : Tally) (place : ℕ) (way : IsOnTheWay cluster tally seen shape run) →
    Some place ≡ first_of (undelivered way.now) → sum_of tally + 1 ≤ count_in cluster.rest.nodes
sum_below shape seen run cluster tally place way first =
    let next = next_place shape seen run cluster tally place way first in
    let one : length (undelivered way.now) ≡ suc (length next.0) = ap length next.1 in
    let few = way.few in
    let s : count_in cluster.rest.nodes ≡ length way.now.sent = ap length way.held.rest.net.outbox.sent_is in
    omega arith

-- one place more is delivered
pub way_more : (shape : Shape) (seen : ℕ → List ℕ) (run : Progress) (old new : Cluster) (tally : Tally) (place : ℕ) (answer : Received) (way : IsOnTheWay old tally seen shape run) →
    Some place ≡ first_of (undelivered way.now) →
    ((f : ℕ → List ℕ) (s : Shape) (r : Progress) → IsCluster old f s r → IsCluster new f s (deliver_step s place r).run × (answer_outcome answer ≡ (deliver_step s place r).outcome)) →
    IsOnTheWay new (with_answer answer tally) seen shape run
way_more shape seen run old new tally place answer way first step =
    let now = way.now in
    let (rest, waits) = next_place shape seen run old tally place way first in
    let within : place < length now.sent = waiting_within (failed_in now) now.sent place now.delivered rest waits in
    let (at, there) = get_within now.sent place within in
    let stepped = deliver_there shape now place at there in
    let (held, answered) = step seen shape now way.held in
    let after = (deliver_step shape place now).run in
    let sent : after.sent ≡ now.sent = ap (λ (s : StepResult). s.run.sent) stepped in
    let later : undelivered after ≡ rest =
    ap (λ (s : StepResult). undelivered s.run) stepped ∙ waiting_rest (failed_in now) now.sent place now.delivered rest waits in
    let message : Message = at.message in
    let is : answer ≡ answer_to (fed_by shape now) message = sym (told_back answer) ∙ ap answer_told (answered ∙ ap (λ (s : StepResult). s.outcome) stepped) ∙ told_back (answer_to (fed_by shape now) message) in
    let messages : messages_at now.sent (undelivered now) ≡ message ∷ messages_at now.sent rest =
    ap (messages_at now.sent) waits ∙ ap (λ (found : Option Sent). cons_option (option_map (λ one. one.message) found) (messages_at now.sent rest)) there in
    let later_answers : answers_to (with_received message (fed_by shape now)) (messages_at now.sent rest) ≡ waiting_answers shape after =
    ap (λ (places : List ℕ). answers_to (with_received message (fed_by shape now)) (messages_at now.sent places)) (sym later)
    ∙ ap (λ (s : StepResult). answers_to (fed_by shape s.run) (messages_at s.run.sent (undelivered after))) (sym stepped) in
    let answers_now : waiting_answers shape now ≡ answer ∷ waiting_answers shape after =
    ap (answers_to (fed_by shape now)) messages
    ∙ ap (λ (one : Received). one ∷ answers_to (with_received message (fed_by shape now)) (messages_at now.sent rest)) (sym is)
    ∙ ap (λ (others : List Received). answer ∷ others) later_answers in
    record {
      now = after;
      held = held;
      goal = ap (λ (ps : List ℕ). all_delivered shape ps after) later ∙ sym (ap (λ (ps : List ℕ). all_delivered shape ps now) waits) ∙ way.goal;
      counted = record {
        kept = counts_more is_kept tally.kept _ (with_answer answer tally).kept answer (waiting_answers shape after) (sym (ap (λ (all : List Received). tally.kept + count_by is_kept all) answers_now) ∙ way.counted.kept) (kept_more answer tally);
        known = counts_more is_known tally.known _ (with_answer answer tally).known answer (waiting_answers shape after) (sym (ap (λ (all : List Received). tally.known + count_by is_known all) answers_now) ∙ way.counted.known) (known_more answer tally);
        old = counts_more is_old tally.outdated _ (with_answer answer tally).outdated answer (waiting_answers shape after) (sym (ap (λ (all : List Received). tally.outdated + count_by is_old all) answers_now) ∙ way.counted.old) (old_more answer tally);
      };
      few = (let few = way.few in let one : length (undelivered now) ≡ suc (length rest) = ap length waits in let n : length (undelivered after) ≡ length rest = ap length later in let s = sum_more answer tally in let m : length after.sent ≡ length now.sent = ap length sent in omega arith);
    }

-- fewer wait then
pub way_smaller : (shape : Shape) (seen : ℕ → List ℕ) (run : Progress) (old new : Cluster) (tally : Tally) (place : ℕ) (answer : Received) (way : IsOnTheWay old tally seen shape run) →
    Some place ≡ first_of (undelivered way.now) →
    ((f : ℕ → List ℕ) (s : Shape) (r : Progress) → IsCluster old f s r → IsCluster new f s (deliver_step s place r).run × (answer_outcome answer ≡ (deliver_step s place r).outcome)) →
    still_waiting new.rest.nodes.outbox < still_waiting old.rest.nodes.outbox
way_smaller shape seen run old new tally place answer way first step =
    let now = way.now in
    let (rest, waits) = next_place shape seen run old tally place way first in
    let within : place < length now.sent = waiting_within (failed_in now) now.sent place now.delivered rest waits in
    let (at, there) = get_within now.sent place within in
    let stepped = deliver_there shape now place at there in
    let (held, answered) = step seen shape now way.held in
    let later : undelivered (deliver_step shape place now).run ≡ rest =
    ap (λ (s : StepResult). undelivered s.run) stepped ∙ waiting_rest (failed_in now) now.sent place now.delivered rest waits in
    let before : still_waiting old.rest.nodes.outbox ≡ suc (length rest) = still_waiting_is old.rest.nodes.outbox now.sent now.delivered (failed_in now) way.held.rest.net.outbox ∙ ap length waits in
    let run_after : Progress = (deliver_step shape place now).run in
    let after : still_waiting new.rest.nodes.outbox ≡ length rest = still_waiting_is new.rest.nodes.outbox run_after.sent run_after.delivered (failed_in run_after) held.rest.net.outbox ∙ ap length later in
    omega arith

-- as many wait when the outbox was looked at
pub waits_same : (shape : Shape) (seen : ℕ → List ℕ) (run : Progress) (old new : Cluster) (tally : Tally) (way : IsOnTheWay old tally seen shape run) (looked : IsOnTheWay new tally seen shape run) → looked.now ≡ way.now →
    still_waiting new.rest.nodes.outbox ≡ still_waiting old.rest.nodes.outbox
waits_same shape seen run old new tally way looked same =
    still_waiting_is new.rest.nodes.outbox looked.now.sent looked.now.delivered (failed_in looked.now) looked.held.rest.net.outbox
    ∙ ap (λ (p : Progress). length (undelivered p)) same
    ∙ sym (still_waiting_is old.rest.nodes.outbox way.now.sent way.now.delivered (failed_in way.now) way.held.rest.net.outbox)

-- none waits any more
pub way_ends : (shape : Shape) (seen : ℕ → List ℕ) (run : Progress) (cluster : Cluster) (tally : Tally) (way : IsOnTheWay cluster tally seen shape run) →
    None ≡ first_of (undelivered way.now) →
    IsCluster cluster seen shape (deliver_all_step shape run).run × (outcomes.Delivered tally.kept tally.known tally.outdated ≡ (deliver_all_step shape run).outcome)
unfolding deliver_all_step delivery_of_all
way_ends shape seen run cluster tally way first =
    let none : undelivered way.now ≡ [] = no_first (undelivered way.now) (sym first) in
    let here : way.now ≡ all_delivered shape (undelivered run) run = sym (ap (λ (ps : List ℕ). all_delivered shape ps way.now) none) ∙ way.goal in
    let kept : tally.kept ≡ count_by is_kept (waiting_answers shape run) = counted_all is_kept tally.kept _ none way.counted.kept in
    let known : tally.known ≡ count_by is_known (waiting_answers shape run) = counted_all is_known tally.known _ none way.counted.known in
    let old : tally.outdated ≡ count_by is_old (waiting_answers shape run) = counted_all is_old tally.outdated _ none way.counted.old in (
      subst (IsCluster cluster seen shape) here way.held,
      ap (λ (n : ℕ). outcomes.Delivered n tally.known tally.outdated) kept
          ∙ ap (λ (n : ℕ). outcomes.Delivered (count_by is_kept (waiting_answers shape run)) n tally.outdated) known
          ∙ ap (outcomes.Delivered (count_by is_kept (waiting_answers shape run)) (count_by is_known (waiting_answers shape run))) old,
    )
  where
    no_first : (places : List ℕ) → first_of places ≡ None → places ≡ []
    no_first [] same = refl
    no_first (p ∷ places) same = absurd (let g : Some p ≡ None = same in cc)

    counted_all : (test : Received → Bool) (n total : ℕ) → undelivered way.now ≡ [] → n + count_by test (waiting_answers shape way.now) ≡ total → n ≡ total
    counted_all test n total none whole =
        let z : count_by test (waiting_answers shape way.now) ≡ 0 = ap (λ (ps : List ℕ). count_by test (answers_to (fed_by shape way.now) (messages_at way.now.sent ps))) none in omega arith
