mod TrialLaws
