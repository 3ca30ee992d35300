-- How many words each state of activity is
use mathlib.Core.Path.{◌≡◌, refl}
use lib.ListN.{length}
use Rattle.activity.specs.declared.Activity.TheVariants as activityv
use Rattle.activity.specs.declared.Activity.{Activity}
use Rattle.packed.specs.Activity.{words_activity}

pub activity_length : (s : Activity) → length (words_activity s) ≡ 3
unfolding words_activity
activity_length (activityv.Exchanging x0) = refl
activity_length (activityv.Pausing x0 x1) = refl
