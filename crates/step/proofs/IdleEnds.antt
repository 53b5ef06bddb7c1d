-- What a frame ends with where hints say that nothing ends, or that a transaction has done nothing: with nothing more.
use Prim.Native.Nat.{ℕ, ◌<◌}
use mathlib.Core.Bool.{Bool, true, false, not, cond, ◌&&◌, true≢false}
use mathlib.Core.Option.{some}
use mathlib.Core.Path.{◌≡◌, refl, sym, ap, ap₂, ◌∙◌}
use mathlib.Core.List.{List, [], ◌++◌, map, Memᴰ}
use borrow.Author.Tests.{ne_eqb}
use lib.Dec.{eqb}
use Rattle.rules.specs.declared.Entry.{Entry}
use Rattle.rules.specs.declared.LookUp.{LookUp}
use Rattle.rules.specs.declared.Registration.{Registration}
use Rattle.rules.specs.declared.Txn.{Txn}
use Rattle.rules.specs.Lists.{All, filterb}
use Rattle.rules.specs.State.{Model, with_entries, with_waits, with_clock, with_registrations}
use Rattle.rules.specs.Template.{matches}
use Rattle.rules.specs.Holds.{live_txn, drop_reader, drop_reader_of, read_by_other, available, conflicts, others_if}
use Rattle.rules.specs.Frame.{Frame, is_tick, serves}
use Rattle.rules.specs.Done.{Done, quiet}
use Rattle.rules.specs.Records.{exception}
use Rattle.rules.specs.Step.{finish}
use Rattle.rules.specs.Service.{service}
use Rattle.rules.specs.Tick.{lapsed, ended_txns, abort_all, drop_ended, unregistered}
use Rattle.rules.specs.Closing.{close_waits}
use Rattle.rules.specs.Time.{reached}
use Rattle.rules.specs.Transactions.{is_private_to, is_taken_by, released, commit, abort}
use Rattle.rules.specs.Sound.{Sound, NoneFor, Hopeful}
use Rattle.rules.proofs.ListLaws.{any-filter, all_false, filter_pass, map_same, any_same}
use Rattle.rules.proofs.SoundLaws.{all-hopeful}
use Rattle.sound.proofs.FreedLaws.{live-without}
use Rattle.sound.proofs.HolderLaws.{live-found}
use Rattle.sound.proofs.SoundProof.{available-same}
use Rattle.hints.specs.Hints.{EndsFrom, Idle}
use Rattle.finish.specs.Ending.{ended}
use Rattle.finish.proofs.FromLaws.{service-idle}

-- where nothing ends, nobody has an available entry, and nobody is over
module _ (f : Frame) (m : Model) where
  either : (b : Bool) (d : Done) → (b ≡ true → d ≡ quiet m) → cond b d (quiet m) ≡ quiet m
  either true d h = h refl
  either false d h = refl

  quiet-finish : (is_tick f.op ≡ true → lapsed m ≡ quiet m) → NoneFor m → close_waits m ≡ quiet m
      → finish f m ≡ quiet m
  unfolding finish
  quiet-finish t h c =
      ap ends (either (is_tick f.op) (lapsed m) t)
      ∙ ap closed (either (serves f) (service m) (λ _. service-idle m h))
      ∙ c
    where
      closed : Done → Done
      closed v =
          let d = close_waits v.model in record { model = d.model; records = v.records ++ d.records }

      ends : Done → Done
      ends e =
          let v = cond (serves f) (service e.model) (quiet e.model) in
          let d = close_waits v.model in
          record { model = d.model; records = e.records ++ v.records ++ d.records }

-- ---- a tick before anything ends
module _ (m : Model) (n clock : ℕ) (e : EndsFrom n m) (l : clock < n) where
  abbrev now : Model
  now = with_clock clock m

  none_lapse : lapsed now ≡ quiet now
  unfolding lapsed ended_txns abort_all drop_ended
  none_lapse =
      ap (λ ts. record { model = drop_ended (abort_all ts now); records = map exception ts })
      (any-filter (λ (t : Txn). reached clock t.end) m.txns
      (all_false (λ (t : Txn). reached clock t.end) m.txns (λ t i. e.txns t i clock l)))
      ∙ ap (λ es. quiet (with_entries es now)) (filter_pass (λ (x : Entry). not (reached clock x.end)) m.entries
      (λ x i. ap not (e.entries x i clock l)))

  -- no registration ends
  pub none_end : unregistered now ≡ now
  unfolding unregistered
  none_end =
      ap (λ gs. with_registrations gs now)
      (filter_pass (λ (g : Registration). not (reached clock g.end)) m.registrations
      (λ g i. ap not (e.registrations g i clock l)))

  pub tick-idle : (f : Frame) → Sound m → finish f now ≡ quiet now
  tick-idle f s =
      quiet-finish f now (λ _. none_lapse) s.none_for (all-hopeful now (λ w i. e.waits w i clock l) s.hopeful)

-- ---- a transaction that has done nothing ends
-- a look-up outside it has the same conflicts
conflicts-same : (ts us : List Txn) (w : LookUp) → live_txn w.txn.0 ts ≡ live_txn w.txn.0 us → (e : Entry)
    → conflicts ts w e ≡ conflicts us w e
unfolding conflicts read_by_other
conflicts-same ts us w p e =
    ap₂ (λ a o. matches w.mask w.fields e.fields && not a
    && others_if (not (eqb (drop_reader_of o e.readers) 0)) w e) (available-same ts us w p e) p

module _ (m : Model) (s : Sound m) (x : Txn) (i : Memᴰ x m.txns) (idle : Idle m x) where
  abbrev after : Model
  after = ended x.id.0 m

  live : live_txn x.id.0 m.txns ≡ some x
  live = live-found s.consistent.txns_ok x i x.id.0 refl

  untouched : All (λ e. released m.txns x.id.0 e ≡ e) m.entries
  unfolding released drop_reader
  untouched e j = let h = idle.apart e j in
      rw (live, ne_eqb _ _ h.unwritten, ne_eqb _ _ h.untaken, h.unread)

  pub commit-idle : commit x.id.0 m ≡ after
  unfolding commit
  commit-idle =
      ap (λ es. with_entries es after)
      (ap (map (released m.txns x.id.0))
      (filter_pass (λ e. not (is_taken_by x.id.0 e)) m.entries
      (λ e j. ap not (ne_eqb _ _ (idle.apart e j).untaken)))
      ∙ map_same (released m.txns x.id.0) m.entries untouched)

  -- it makes nothing public
  pub public_idle : filterb (λ e. is_private_to x.id.0 e && not (is_taken_by x.id.0 e)) m.entries ≡ []
  public_idle =
      let own : Entry → Bool = λ e. is_private_to x.id.0 e && not (is_taken_by x.id.0 e) in
      any-filter own m.entries
      (all_false own m.entries
      (λ e j. ap (λ b. b && not (is_taken_by x.id.0 e)) (ne_eqb _ _ (idle.apart e j).unwritten)))

  pub abort-idle : abort x.id.0 m ≡ after
  unfolding abort
  abort-idle =
      ap₂ (λ es ws. with_entries es (with_waits ws after))
      (ap (map (released m.txns x.id.0))
      (filter_pass (λ e. not (is_private_to x.id.0 e)) m.entries
      (λ e j. ap not (ne_eqb _ _ (idle.apart e j).unwritten)))
      ∙ map_same (released m.txns x.id.0) m.entries untouched)
      (filter_pass (λ (w : LookUp). not (eqb w.txn.0 x.id.0)) m.waits
      (λ w j. ap not (ne_eqb _ _ (idle.outside w j))))

  same_live : All (λ w. live_txn w.txn.0 after.txns ≡ live_txn w.txn.0 m.txns) m.waits
  same_live w j = live-without x.id.0 w.txn.0 (idle.outside w j) m.txns

  none_for : NoneFor after
  none_for w j =
      any_same (available after.txns w) (available m.txns w)
      (available-same after.txns m.txns w (same_live w j))
      m.entries ∙ s.none_for w j

  hopeful : Hopeful after
  hopeful w j t =
      any_same (conflicts after.txns w) (conflicts m.txns w)
      (conflicts-same after.txns m.txns w (same_live w j))
      m.entries ∙ s.hopeful w j t

  pub end-idle : (f : Frame) → is_tick f.op ≡ false → finish f after ≡ quiet after
  end-idle f t =
      quiet-finish f after (λ y. absurd (true≢false (sym y ∙ t))) none_for (all-hopeful after s.ahead hopeful)
