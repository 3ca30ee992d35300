-- What a suspended `an_link` still says, from what its job gives
use Rattle.jobs.specs.declared.job.Job.{Job}
use Rattle.jobs.specs.Job.{told_job}
use Rattle.hardware.specs.declared.Step.{Step}
use Rattle.hardware.specs.Talk.{Call, Res, end, is_clear, ◌>>=◌, return}
use Rattle.std.specs.Prelude.{ℕ, Bool, not, List}
use Rattle.hardware.specs.declared.Port.{Port}
use Rattle.reference.specs.Mdio.{read_reg}
use Rattle.phy.specs.declared.an_link.AnLink.{AnLink}
use Rattle.phy.specs.declared.an_link.AnLink.TheVariants as anlink

abbrev pub link_bit : ℕ → Call Bool
link_bit v = return (not (is_clear v 4))

abbrev pub got_an_link : Port → ℕ → AnLink → ℕ → Call Bool
got_an_link port phy anlink.First _ = read_reg port phy 7 1 >>= link_bit
got_an_link port phy anlink.Second v = link_bit v

abbrev pub resume_an_link : Port → ℕ → AnLink → Res ℕ → Call Bool
resume_an_link port phy s got = end got >>= λ v. got_an_link port phy s v

abbrev pub told_an_link : Port → ℕ → List ℕ → Step Job AnLink (Res Bool) → Call Bool
told_an_link port phy b = told_job port b (λ s got _. resume_an_link port phy s got)
