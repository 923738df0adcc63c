-- Worked examples of whole scripts, with reports that were worked out by hand.
use Rattle.std.specs.Prelude.{◌≡◌, ℕ, List, [], ◌∷◌, codes, Result, Ok, Err}
use Rattle.rb_text_defs.specs.declared.script.BadLine.{BadLine}
use Rattle.rb_text_defs.specs.declared.script.ScriptKind.{ScriptKind}
use Rattle.rb_text_defs.specs.declared.script.Script.{Script}
use Rattle.rb_text_defs.specs.Report.{text_of_lines}
use Rattle.rb_text_defs.specs.Script.{script_of}
use Rattle.rb_play_defs.specs.Play.{report_of}

-- the report of a script, or no text if the script is refused
abbrev pub report_if_legal : Result Script BadLine → List ℕ
report_if_legal (Ok script) = report_of script
report_if_legal (Err bad) = []

-- the report of the script in these lines
abbrev pub report_of_lines : List (List ℕ) → List ℕ
report_of_lines lines = report_if_legal (script_of (text_of_lines lines))

-- the first worked example: two inserts in one epoch
abbrev pub the_first_path_script : List (List ℕ)
the_first_path_script =
    codes "table t num"
    ∷ codes "tx A ins t 5 7"
    ∷ codes "tx A ins t 6 8"
    ∷ codes "epoch A"
    ∷ codes "log A" ∷ []

-- its report
abbrev pub the_first_path_report : List (List ℕ)
the_first_path_report =
    codes "ndb replication report"
    ∷ codes "2 ok transid=1 epoch=4294967296 sent=1"
    ∷ codes "3 ok transid=2 epoch=4294967296 sent=2"
    ∷ codes "4 closed 4294967296 sent=3"
    ∷ codes "5 delivered kept=3 known=0 old=0 wrote 1 written=4294967296 missing=0:done"
    ∷ codes "log A files=1 epochs=1 written=4294967296"
    ∷ codes "epoch 4294967296 gci=1 file=1 pos=115 next=456 ins=2 upd=0 del=0"
    ∷ codes "table A t rows=2"
    ∷ codes "row 5 7"
    ∷ codes "row 6 8"
    ∷ codes "end" ∷ []

-- two epochs with empty epochs between them
abbrev pub empty_epochs_script : List (List ℕ)
empty_epochs_script =
    codes "table t num"
    ∷ codes "tx A ins t 1 1"
    ∷ codes "epoch A"
    ∷ codes "epoch A"
    ∷ codes "gcp A"
    ∷ codes "epoch A"
    ∷ codes "tx A ins t 2 2"
    ∷ codes "epoch A"
    ∷ codes "log A" ∷ []

-- its report
abbrev pub empty_epochs_report : List (List ℕ)
empty_epochs_report =
    codes "ndb replication report"
    ∷ codes "2 ok transid=1 epoch=4294967296 sent=1"
    ∷ codes "3 closed 4294967296 sent=2"
    ∷ codes "4 closed 4294967297 sent=3"
    ∷ codes "5 closed 4294967298 sent=4"
    ∷ codes "6 closed 8589934592 sent=5"
    ∷ codes "7 ok transid=2 epoch=8589934593 sent=6"
    ∷ codes "8 closed 8589934593 sent=7"
    ∷ codes "9 delivered kept=7 known=0 old=0 wrote 2 written=8589934593 missing=0:done"
    ∷ codes "log A files=1 epochs=2 written=8589934593"
    ∷ codes "epoch 4294967296 gci=1 file=1 pos=115 next=399 ins=1 upd=0 del=0"
    ∷ codes "epoch 8589934593 gci=2 file=1 pos=399 next=683 ins=1 upd=0 del=0"
    ∷ codes "table A t rows=2"
    ∷ codes "row 1 1"
    ∷ codes "row 2 2"
    ∷ codes "end" ∷ []

-- transactions that are refused
abbrev pub refused_transactions_script : List (List ℕ)
refused_transactions_script =
    codes "table t num"
    ∷ codes "tx A ins t 5 1 ; ins t 5 2"
    ∷ codes "tx A ins t 5 1"
    ∷ codes "tx A ins t 5 3"
    ∷ codes "tx A del t 9"
    ∷ codes "tx A upd t 5 4 ; ins t 5 1" ∷ []

-- its report
abbrev pub refused_transactions_report : List (List ℕ)
refused_transactions_report =
    codes "ndb replication report"
    ∷ codes "2 row twice 1"
    ∷ codes "3 ok transid=1 epoch=4294967296 sent=1"
    ∷ codes "4 key there 0"
    ∷ codes "5 no key 0"
    ∷ codes "6 row twice 1"
    ∷ codes "log A files=1 epochs=0 written=0"
    ∷ codes "table A t rows=1"
    ∷ codes "row 5 1"
    ∷ codes "end" ∷ []

-- messages out of order and repeated
abbrev pub order_and_repeats_script : List (List ℕ)
order_and_repeats_script =
    codes "table t num"
    ∷ codes "tx A ins t 5 7"
    ∷ codes "tx A ins t 6 8"
    ∷ codes "epoch A"
    ∷ codes "deliver A 2"
    ∷ codes "deliver A 1"
    ∷ codes "deliver A 0"
    ∷ codes "deliver A 0"
    ∷ codes "deliver A 3"
    ∷ codes "inject A"
    ∷ codes "deliver A 0" ∷ []

-- its report
abbrev pub order_and_repeats_report : List (List ℕ)
order_and_repeats_report =
    codes "ndb replication report"
    ∷ codes "2 ok transid=1 epoch=4294967296 sent=1"
    ∷ codes "3 ok transid=2 epoch=4294967296 sent=2"
    ∷ codes "4 closed 4294967296 sent=3"
    ∷ codes "5 kept"
    ∷ codes "6 kept"
    ∷ codes "7 kept"
    ∷ codes "8 known"
    ∷ codes "9 no message 3 3"
    ∷ codes "10 wrote 1 written=4294967296 missing=0:done"
    ∷ codes "11 old"
    ∷ codes "log A files=1 epochs=1 written=4294967296"
    ∷ codes "epoch 4294967296 gci=1 file=1 pos=115 next=456 ins=2 upd=0 del=0"
    ∷ codes "table A t rows=2"
    ∷ codes "row 5 7"
    ∷ codes "row 6 8"
    ∷ codes "end" ∷ []

-- an epoch that is delivered before the one before it
abbrev pub lost_first_script : List (List ℕ)
lost_first_script =
    codes "table t num"
    ∷ codes "tx A ins t 1 1"
    ∷ codes "epoch A"
    ∷ codes "tx A ins t 2 2"
    ∷ codes "epoch A"
    ∷ codes "deliver A 2"
    ∷ codes "deliver A 3"
    ∷ codes "inject A"
    ∷ codes "deliver A 1"
    ∷ codes "inject A"
    ∷ codes "deliver A 0"
    ∷ codes "inject A" ∷ []

-- its report
abbrev pub lost_first_report : List (List ℕ)
lost_first_report =
    codes "ndb replication report"
    ∷ codes "2 ok transid=1 epoch=4294967296 sent=1"
    ∷ codes "3 closed 4294967296 sent=2"
    ∷ codes "4 ok transid=2 epoch=4294967297 sent=3"
    ∷ codes "5 closed 4294967297 sent=4"
    ∷ codes "6 kept"
    ∷ codes "7 kept"
    ∷ codes "8 wrote 0 written=0 missing=0:done"
    ∷ codes "9 kept"
    ∷ codes "10 wrote 0 written=0 missing=0:0"
    ∷ codes "11 kept"
    ∷ codes "12 wrote 2 written=4294967297 missing=0:done"
    ∷ codes "log A files=1 epochs=2 written=4294967297"
    ∷ codes "epoch 4294967296 gci=1 file=1 pos=115 next=399 ins=1 upd=0 del=0"
    ∷ codes "epoch 4294967297 gci=1 file=1 pos=399 next=683 ins=1 upd=0 del=0"
    ∷ codes "table A t rows=2"
    ∷ codes "row 1 1"
    ∷ codes "row 2 2"
    ∷ codes "end" ∷ []

-- two nodes in a group
abbrev pub two_nodes_script : List (List ℕ)
two_nodes_script =
    codes "site A groups 1 replicas 2 limit 1048576"
    ∷ codes "table t num"
    ∷ codes "tx A ins t 1 10 ; ins t 2 20"
    ∷ codes "tx A ins t 3 30"
    ∷ codes "epoch A"
    ∷ codes "log A" ∷ []

-- its report
abbrev pub two_nodes_report : List (List ℕ)
two_nodes_report =
    codes "ndb replication report"
    ∷ codes "3 ok transid=1 epoch=4294967296 sent=2"
    ∷ codes "4 ok transid=2 epoch=4294967296 sent=3"
    ∷ codes "5 closed 4294967296 sent=5"
    ∷ codes "6 delivered kept=5 known=0 old=0 wrote 1 written=4294967296 missing=0:done"
    ∷ codes "log A files=1 epochs=1 written=4294967296"
    ∷ codes "epoch 4294967296 gci=1 file=1 pos=115 next=513 ins=3 upd=0 del=0"
    ∷ codes "table A t rows=3"
    ∷ codes "row 1 10"
    ∷ codes "row 2 20"
    ∷ codes "row 3 30"
    ∷ codes "end" ∷ []

-- a takeover during an open epoch
abbrev pub takeover_script : List (List ℕ)
takeover_script =
    codes "site A groups 1 replicas 2 limit 1048576"
    ∷ codes "table t num"
    ∷ codes "tx A ins t 1 10 ; ins t 2 20"
    ∷ codes "deliver A 1"
    ∷ codes "tx A ins t 3 30"
    ∷ codes "fail A 0"
    ∷ codes "epoch A"
    ∷ codes "log A"
    ∷ codes "fail A 0"
    ∷ codes "restart A 1" ∷ []

-- its report
abbrev pub takeover_report : List (List ℕ)
takeover_report =
    codes "ndb replication report"
    ∷ codes "3 ok transid=1 epoch=4294967296 sent=2"
    ∷ codes "4 kept"
    ∷ codes "5 ok transid=2 epoch=4294967296 sent=3"
    ∷ codes "6 failed takeover=1 sent=5"
    ∷ codes "7 closed 4294967296 sent=7"
    ∷ codes "8 delivered kept=4 known=0 old=0 wrote 1 written=4294967296 missing=0:done"
    ∷ codes "9 node down 0"
    ∷ codes "10 node up 1"
    ∷ codes "log A files=1 epochs=1 written=4294967296"
    ∷ codes "epoch 4294967296 gci=1 file=1 pos=115 next=513 ins=3 upd=0 del=0"
    ∷ codes "table A t rows=3"
    ∷ codes "row 1 10"
    ∷ codes "row 2 20"
    ∷ codes "row 3 30"
    ∷ codes "end" ∷ []

-- a group that is lost
abbrev pub lost_group_script : List (List ℕ)
lost_group_script =
    codes "site A groups 1 replicas 2 limit 1048576"
    ∷ codes "table t num"
    ∷ codes "tx A ins t 1 10"
    ∷ codes "fail A 1"
    ∷ codes "restart A 1"
    ∷ codes "epoch A"
    ∷ codes "fail A 0"
    ∷ codes "tx A ins t 2 20"
    ∷ codes "log A"
    ∷ codes "deliver A 2" ∷ []

-- its report
abbrev pub lost_group_report : List (List ℕ)
lost_group_report =
    codes "ndb replication report"
    ∷ codes "3 ok transid=1 epoch=4294967296 sent=1"
    ∷ codes "4 failed takeover=1 sent=1"
    ∷ codes "5 restarted since=4294967297"
    ∷ codes "6 closed 4294967296 sent=3"
    ∷ codes "7 lost 0 4294967296"
    ∷ codes "8 site lost 0 4294967296"
    ∷ codes "9 delivered kept=0 known=0 old=0 wrote 0 written=0 missing=0:done"
    ∷ codes "10 kept"
    ∷ codes "log A files=1 epochs=0 written=0"
    ∷ codes "table A t rows=1"
    ∷ codes "row 1 10"
    ∷ codes "end" ∷ []

-- owners that resend
abbrev pub resend_script : List (List ℕ)
resend_script =
    codes "table t num"
    ∷ codes "tx A ins t 1 1"
    ∷ codes "epoch A"
    ∷ codes "epoch A"
    ∷ codes "resend A"
    ∷ codes "log A" ∷ []

-- its report
abbrev pub resend_report : List (List ℕ)
resend_report =
    codes "ndb replication report"
    ∷ codes "2 ok transid=1 epoch=4294967296 sent=1"
    ∷ codes "3 closed 4294967296 sent=2"
    ∷ codes "4 closed 4294967297 sent=3"
    ∷ codes "5 resent sent=6"
    ∷ codes "6 delivered kept=3 known=3 old=0 wrote 1 written=4294967296 missing=0:done"
    ∷ codes "log A files=1 epochs=1 written=4294967296"
    ∷ codes "epoch 4294967296 gci=1 file=1 pos=115 next=399 ins=1 upd=0 del=0"
    ∷ codes "table A t rows=1"
    ∷ codes "row 1 1"
    ∷ codes "end" ∷ []

-- a bucket that returns to its home node
abbrev pub return_script : List (List ℕ)
return_script =
    codes "site A groups 1 replicas 2 limit 1048576"
    ∷ codes "table t num"
    ∷ codes "tx A ins t 1 10 ; ins t 2 20"
    ∷ codes "fail A 0"
    ∷ codes "restart A 0"
    ∷ codes "epoch A"
    ∷ codes "log A"
    ∷ codes "tx A ins t 3 30"
    ∷ codes "epoch A"
    ∷ codes "fail A 1"
    ∷ codes "log A" ∷ []

-- its report
abbrev pub return_report : List (List ℕ)
return_report =
    codes "ndb replication report"
    ∷ codes "3 ok transid=1 epoch=4294967296 sent=2"
    ∷ codes "4 failed takeover=1 sent=3"
    ∷ codes "5 restarted since=4294967297"
    ∷ codes "6 closed 4294967296 sent=5"
    ∷ codes "7 delivered kept=4 known=0 old=0 wrote 1 written=4294967296 missing=0:done"
    ∷ codes "8 ok transid=2 epoch=4294967297 sent=6"
    ∷ codes "9 closed 4294967297 sent=10"
    ∷ codes "10 failed takeover=1 sent=11"
    ∷ codes "11 delivered kept=3 known=0 old=0 wrote 1 written=4294967297 missing=0:done"
    ∷ codes "log A files=1 epochs=2 written=4294967297"
    ∷ codes "epoch 4294967296 gci=1 file=1 pos=115 next=456 ins=2 upd=0 del=0"
    ∷ codes "epoch 4294967297 gci=1 file=1 pos=456 next=740 ins=1 upd=0 del=0"
    ∷ codes "table A t rows=3"
    ∷ codes "row 1 10"
    ∷ codes "row 2 20"
    ∷ codes "row 3 30"
    ∷ codes "end" ∷ []

-- takeovers in cyclic order
abbrev pub cycle_script : List (List ℕ)
cycle_script =
    codes "site A groups 1 replicas 4 limit 1048576"
    ∷ codes "table t num"
    ∷ codes "tx A ins t 1 10"
    ∷ codes "fail A 2"
    ∷ codes "fail A 0"
    ∷ codes "fail A 3"
    ∷ codes "epoch A"
    ∷ codes "log A" ∷ []

-- its report
abbrev pub cycle_report : List (List ℕ)
cycle_report =
    codes "ndb replication report"
    ∷ codes "3 ok transid=1 epoch=4294967296 sent=1"
    ∷ codes "4 failed takeover=1 sent=2"
    ∷ codes "5 failed takeover=1 sent=2"
    ∷ codes "6 failed takeover=2 sent=3"
    ∷ codes "7 closed 4294967296 sent=7"
    ∷ codes "8 delivered kept=5 known=0 old=0 wrote 1 written=4294967296 missing=0:done"
    ∷ codes "log A files=1 epochs=1 written=4294967296"
    ∷ codes "epoch 4294967296 gci=1 file=1 pos=115 next=399 ins=1 upd=0 del=0"
    ∷ codes "table A t rows=1"
    ∷ codes "row 1 10"
    ∷ codes "end" ∷ []

-- a log that is rotated
abbrev pub rotation_script : List (List ℕ)
rotation_script =
    codes "site A groups 1 replicas 1 limit 512"
    ∷ codes "table t num"
    ∷ codes "tx A ins t 1 1"
    ∷ codes "epoch A"
    ∷ codes "gcp A"
    ∷ codes "epoch A"
    ∷ codes "tx A ins t 2 2"
    ∷ codes "epoch A"
    ∷ codes "log A"
    ∷ codes "tx A upd t 1 3 ; del t 2"
    ∷ codes "epoch A"
    ∷ codes "log A" ∷ []

-- its report
abbrev pub rotation_report : List (List ℕ)
rotation_report =
    codes "ndb replication report"
    ∷ codes "3 ok transid=1 epoch=4294967296 sent=1"
    ∷ codes "4 closed 4294967296 sent=2"
    ∷ codes "5 closed 4294967297 sent=3"
    ∷ codes "6 closed 8589934592 sent=4"
    ∷ codes "7 ok transid=2 epoch=8589934593 sent=5"
    ∷ codes "8 closed 8589934593 sent=6"
    ∷ codes "9 delivered kept=6 known=0 old=0 wrote 2 written=8589934593 missing=0:done"
    ∷ codes "10 ok transid=3 epoch=8589934594 sent=8"
    ∷ codes "11 closed 8589934594 sent=9"
    ∷ codes "12 delivered kept=3 known=0 old=0 wrote 1 written=8589934594 missing=0:done"
    ∷ codes "log A files=2 epochs=3 written=8589934594"
    ∷ codes "epoch 4294967296 gci=1 file=1 pos=115 next=399 ins=1 upd=0 del=0"
    ∷ codes "epoch 8589934593 gci=2 file=1 pos=399 next=683 ins=1 upd=0 del=0"
    ∷ codes "epoch 8589934594 gci=2 file=2 pos=115 next=474 ins=0 upd=1 del=1"
    ∷ codes "table A t rows=1"
    ∷ codes "row 1 3"
    ∷ codes "end" ∷ []

-- an injector that stops after an empty epoch
abbrev pub injector_script : List (List ℕ)
injector_script =
    codes "table t num"
    ∷ codes "tx A ins t 1 1"
    ∷ codes "epoch A"
    ∷ codes "epoch A"
    ∷ codes "log A"
    ∷ codes "injector A"
    ∷ codes "tx A ins t 2 2"
    ∷ codes "epoch A"
    ∷ codes "log A" ∷ []

-- its report
abbrev pub injector_report : List (List ℕ)
injector_report =
    codes "ndb replication report"
    ∷ codes "2 ok transid=1 epoch=4294967296 sent=1"
    ∷ codes "3 closed 4294967296 sent=2"
    ∷ codes "4 closed 4294967297 sent=3"
    ∷ codes "5 delivered kept=3 known=0 old=0 wrote 1 written=4294967296 missing=0:done"
    ∷ codes "6 recovered written=4294967296 sent=4"
    ∷ codes "7 ok transid=2 epoch=4294967298 sent=5"
    ∷ codes "8 closed 4294967298 sent=6"
    ∷ codes "9 delivered kept=3 known=0 old=0 wrote 1 written=4294967298 missing=0:done"
    ∷ codes "log A files=1 epochs=2 written=4294967298"
    ∷ codes "epoch 4294967296 gci=1 file=1 pos=115 next=399 ins=1 upd=0 del=0"
    ∷ codes "epoch 4294967298 gci=1 file=1 pos=399 next=683 ins=1 upd=0 del=0"
    ∷ codes "table A t rows=2"
    ∷ codes "row 1 1"
    ∷ codes "row 2 2"
    ∷ codes "end" ∷ []

-- these lines are refused: their first bad line is this line, for this reason
abbrev pub are_refused : List (List ℕ) → (line : ℕ) → ScriptKind → Type 0
are_refused lines line kind = script_of (text_of_lines lines) ≡ Err (record { line = line; kind = kind })
