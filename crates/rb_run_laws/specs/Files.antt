-- The files of a binlog as a reader reads them.
use Rattle.std.specs.Prelude.{◌≡◌, ℕ, ◌+◌, List, [], ◌∷◌, ◌++◌, length, None}
use Rattle.rb_base.specs.declared.site.SiteId.{SiteId}
use Rattle.rb_base.specs.declared.body.EpochBody.{EpochBody}
use Rattle.rb_log_defs.specs.Epoch.{epoch_bytes}
use Rattle.rb_log_defs.specs.File.{file_name, file_start}
use Rattle.rb_read_defs.specs.Stream.{seen_of, steps_of, rest_of}
use Rattle.rb_read_defs.specs.declared.answers.Step.{Step}
use Rattle.rb_read_defs.specs.declared.answers.Step.TheVariants as steps

-- a step for each of these epochs, the first of which starts at this position; each step has the
-- position after its epoch
abbrev pub epoch_steps : (start : ℕ) → List EpochBody → List Step
epoch_steps start [] = []
epoch_steps start (body ∷ bodies) =
    steps.Epoch body (start + length (epoch_bytes body start)) ∷ epoch_steps (start + length (epoch_bytes body start)) bodies

-- a file is read to its end: its format description, these epochs, and then these last steps; no
-- event is bad, and no byte is left
pub record IsReadAs (site : SiteId) (bodies : List EpochBody) (last : List Step) (file : List ℕ) : Type 0 where
  pub steps : steps_of (seen_of 0 file).known ≡ steps.Format ∷ (epoch_steps (length (file_start site)) bodies ++ last)
  pub sound : (seen_of 0 file).fault ≡ None
  pub rest : rest_of 0 file ≡ 0

-- the files from this number on are read as these bodies, in order: each file has some of them, and
-- each file except the last has a rotation to the next one
abbrev pub AreReadAs : SiteId → (number : ℕ) → List EpochBody → List (List ℕ) → Type 0
AreReadAs site number bodies [] = ⊥
AreReadAs site number bodies (file ∷ []) = IsReadAs site bodies [] file
AreReadAs site number bodies (file ∷ next ∷ later) =
    (own following : List EpochBody) × (bodies ≡ own ++ following) × IsReadAs site own (steps.Rotate 4 (file_name site (number + 1)) ∷ []) file
    × AreReadAs site (number + 1) following (next ∷ later)
