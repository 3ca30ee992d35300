-- hostif.rs has no sideband wait
use Prim.Native.Nat.{ℕ, ◌+◌, ◌-◌}
use mathlib.Core.Path.{refl}
use mathlib.Core.Bool.{Bool, false, not, ◌||◌}
use mathlib.Core.List.{List}
use lib.Dec.{eqb, ltb}
use lib.ListN.{length, set}
use Rattle.hardware.specs.Talk.{is_clear, read_raw, fail}
use Rattle.hardware.specs.Block as blk
use Rattle.hardware.specs.declared.Action.TheVariants as action
use Rattle.hardware.specs.declared.Error.TheVariants.{Firmware}
use Rattle.hardware.specs.declared.Port.{Port}
use Rattle.words.specs.Hostif.{flex_mng, fits, reply_words}
use Rattle.reference.specs.Sync.{with_block}
use Rattle.reference.specs.Hostif.{posted, hicr_turn, started, write_turn, post, reply_length, reply_status, rest_turn, received, exchange, command, token_status, token, activity_block, activity_turn, phy_activity}
use Rattle.hardware.proofs.Laws.{by_turns}
use Rattle.reference.proofs.Alike.{Alike, at_end, at_ask, Anywhere, Still, anywhere, follows, ends, tries, bind, picks, reads, writes, waits, holds, keeps, lends}
use Rattle.reference.proofs.Pauses.Sync.{of_acquire_bits, of_release_bits}

module _ {p q : ℕ} where
  of_posted : (last : ℕ) → Still p q (posted last)
  unfolding posted
  of_posted last = picks (not (is_clear last 2) || is_clear last 4) ends ends

  of_started : (hicr : ℕ) → Still p q (started hicr)
  of_started hicr =
      bind writes
      (λ _. by_turns (λ g. (last : ℕ) → Still p q (g last)) hicr_turn posted
      (λ again w last. bind (reads refl) (λ v. picks (is_clear v 2) (of_posted v) (bind waits (λ _. w v)))) of_posted 50000 _)

  pub of_post : (block : List ℕ) → Still p q (post block)
  unfolding post
  of_post block =
      bind (reads refl)
      (λ fwsts. bind writes
      (λ _. bind (reads refl)
      (λ hicr. picks (is_clear hicr 1) ends
      (by_turns (λ g. (i : ℕ) → Still p q (g i)) (write_turn block) (λ _. started hicr) (λ again w i. bind writes (λ _. w (i + 1))) (λ _. of_started hicr)
      (length block - 0) 0))))

  -- the block's registers are looked at by no name; no wait follows
  of_word : (b : Bool) (i : ℕ) (ws : List ℕ) → Alike p q Anywhere b (blk.keep (read_raw (flex_mng i)) ws) (blk.keep (read_raw (flex_mng i)) ws)
  of_word b i ws = at_ask (action.Read (flex_mng i)) (λ r. at_end tt)

  of_received : (last head : ℕ) (b : Bool) (ws : List ℕ) → Alike p q Anywhere b (received last head ws) (received last head ws)
  unfolding received
  of_received last head b ws =
      picks (fits (reply_length head) (length ws))
      (by_turns (λ g. (b : Bool) (i : ℕ) (ws : List ℕ) → Alike p q Anywhere b (g i ws) (g i ws)) (rest_turn (reply_status head)) (λ _. blk.return (reply_status head))
      (λ again w b i ws. picks (ltb i (length ws)) (lends (of_word b i ws) (λ c _ v vs. w c (i + 1) (set vs i v))) (at_end tt))
      (λ b i ws. at_end tt) (reply_words (reply_length head)) b 1 (set ws 0 head))
      (at_end tt)

  of_exchange : (ws : List ℕ) → Alike p q Anywhere false (exchange ws) (exchange ws)
  of_exchange ws =
      lends (keeps ws (anywhere (of_post ws)))
      (λ c _ last vs. lends (of_raw c vs) (λ c _ head ws. of_received last head c ws))
    where
      of_raw : (b : Bool) (ws : List ℕ) → Alike p q Anywhere b (blk.keep (read_raw 0x15800) ws) (blk.keep (read_raw 0x15800) ws)
      of_raw b ws = at_ask (action.Read 0x15800) (λ r. at_end tt)

module _ {p q : ℕ} (port : Port) where
  pub of_command : (ws : List ℕ) → Still p q (command port ws)
  unfolding command
  of_command ws = holds (with_block ws) (of_acquire_bits port 0x400) (λ b _. of_release_bits port 0x400 b) (of_exchange ws)

  of_status : (take : Bool) (status : ℕ) → Still p q (token_status take status)
  unfolding token_status
  of_status take status = picks (eqb status 1) ends (picks (eqb status 0x80) (picks take ends ends) ends)

  pub of_token : (take : Bool) → Still p q (token port take)
  unfolding token
  of_token take = follows (of_command _) (λ x. tries x.0 (of_status take))

  pub of_activity : (activity d0 d1 d2 d3 : ℕ) → Still p q (phy_activity port activity d0 d1 d2 d3)
  unfolding phy_activity
  of_activity activity d0 d1 d2 d3 =
      by_turns (λ g. (status : ℕ) → Still p q (g status)) (activity_turn port (activity_block port activity d0 d1 d2 d3))
      (λ status. fail (Firmware 0x05 status))
      (λ again w _. follows (of_command _) (λ x. tries x.0 (λ status. picks (eqb status 1) ends (bind waits (λ _. w status)))))
      (λ status. ends) 50 0
