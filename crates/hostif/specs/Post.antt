-- What a suspended machine of post.rt still says, with the block as it is
use Rattle.hardware.specs.Told.{told}
use Rattle.hardware.specs.declared.Action.{Action}
use Rattle.hardware.specs.declared.Step.{Step}
use Rattle.hardware.specs.Talk.{Call, Res, end, ◌>>=◌, ◌>>◌, read, write, delay, pick, fail, is_clear, checked, done, Reply}
use Rattle.std.specs.Prelude.{ℕ, List, Ok}
use Rattle.std.specs.Int.Bits.{bit_or}
use Rattle.hardware.specs.declared.Error.TheVariants.{HostInterface}
use Rattle.reference.specs.Hostif.{posted, hicr_times, write_words}
use Rattle.hostif.specs.declared.post.Post.{Post}
use Rattle.hostif.specs.declared.post.Post.TheVariants as post

abbrev pub post_hicr : List ℕ → Res ℕ → Call ℕ
post_hicr b hicr = end hicr >>= (λ hicr. pick (is_clear hicr 1) (fail (HostInterface hicr)) (write_words b hicr 0))

-- FWRI is written
abbrev pub post_fwri : List ℕ → Call (Unit {0}) → Call ℕ
post_fwri b t =
    do
      t
      hicr ← read 0x15f00
      post_hicr b (Ok hicr)

abbrev pub post_fwsts : List ℕ → Res ℕ → Call ℕ
post_fwsts b fwsts = end fwsts >>= (λ fwsts. post_fwri b (write 0x15f0c (bit_or fwsts 0x200)))

abbrev pub post_polled : ℕ → Res ℕ → Call ℕ
post_polled n last = end last >>= (λ last. pick (is_clear last 2) (posted last) (delay 10 >> hicr_times n last))

abbrev pub resume_post : Post → List ℕ → Reply → Call ℕ
resume_post post.Fwsts b r = post_fwsts b (checked r)
resume_post post.Fwri b r = post_fwri b (end (done r))
resume_post post.Hicr b r = post_hicr b (checked r)
resume_post (post.Writing hicr i) b r = end (done r) >> write_words b hicr i
resume_post (post.Started hicr) b r = end (done r) >> hicr_times 50000 (bit_or hicr 2)
resume_post (post.Polling n) b r = post_polled n (checked r)
resume_post (post.Pausing n last) b r = hicr_times n last

abbrev pub told_post : List ℕ → Step Action Post (Res ℕ) → Call ℕ
told_post b = told (λ s r. resume_post s b r)
