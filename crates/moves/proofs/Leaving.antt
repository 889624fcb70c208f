-- Reports leave queue and spool.
use Rattle.std.proofs.Common.{◌≡◌, ℕ, ◌+◌, ◌≤◌, Bool, true, false, List, [], ◌∷◌, ◌++◌, length, Some, None, Option, sym, refl, ap, ◌∙◌, subst, subst₂, arith}
use Rattle.std.proofs.lemmas.List.{length_push}
use Rattle.std.proofs.lemmas.Bool.{false≢true}
use Rattle.lines.specs.declared.line.Letter.TheVariants.{Acknowledged, Dropped, Purged, SpoolAcknowledged}
use Rattle.lines.specs.declared.line.Line.{Line}
use Rattle.spooling.specs.Entering.{directed, one_more}
use Rattle.spooling.specs.Holdings.{Holding, Shelf, add_line, with_pending, with_queue, with_spool, with_spooling}
use Rattle.spooling.specs.Leaving.{acknowledged, acknowledged_at, acknowledged_from, activated, deactivated, dropped, dropped_all, dropped_at, moved, moved_all, purged_at, queue_acked_at, spool_acked_at}
use Rattle.spooling.specs.declared.state.OpenReport.{OpenReport}
use Rattle.spooling.specs.declared.state.Source.{Source}
use Rattle.spooling.specs.declared.state.Source.TheVariants.{Queue, Spool}
use Rattle.spooling.specs.declared.state.Unload.{Unload}
use Rattle.spooling.specs.declared.state.Unload.TheVariants.{NoOutput, Transmit, Purge}
use Rattle.states.specs.declared.control.Control.{Control}
use Rattle.states.specs.declared.link.Link.{Link}
use Rattle.store.specs.Reports.{Report, after_remove, oldest_number}
use Rattle.moves.specs.Books.{Book, OldestOpen, OpensFirst, OpensFrom, unloads, with_held}
use Rattle.moves.specs.Moves.{Move, Moves, acknowledges, acknowledges_spooled, activates, closes, deactivates, directs, drops, halts, opens, opens_spooled, purges, stays, turns}
use Rattle.moves.specs.Numbers.{is_spool_end, numbers_of}
use Rattle.moves.proofs.Accounts.{Accounts, front_gone, line, one_dropped, plus, queue_acknowledged, recounted, spool_acknowledged}
use Rattle.moves.proofs.Accounts.{activated as activated-accounts, deactivated as deactivated-accounts}
use Rattle.moves.proofs.Directing.{AccountsOf, Directed, directed_way, on_page, said_is}
use Rattle.moves.proofs.Sounds.{Kept, Sound, Standing, joined, kept_none, kept_then, kept_wider, one}

-- no list is both empty and not
pub not_empty : {A : Type 0} (x : A) (xs : List A) → x ∷ xs ≡ [] → ⊥
not_empty x xs e = let z : ◌≡◌ {A = ℕ} (length (x ∷ xs)) 0 = ap length e in omega arith

module _ (o : Bool) (past base : List Line) (k : ℕ) (a : Bool) (room : k ≤ 28) where
  -- D: the queue's oldest report is dropped
  drop_one : (b : Book) (r : Report) (rs : List Report) → b.held.queue.records ≡ r ∷ rs → b.held.pending ≡ None → Sound past base k a b
      → Kept o past base k a b (with_held (add_line Dropped r.number (with_queue rs b.held)) b)
  drop_one b r rs e n s =
      let l : length b.held.queue.records ≡ length (r ∷ rs) = ap length e in
      subst (λ (h : Holding). Kept o past base k a b (with_held h b)) (sym (said_is Dropped r.number (with_queue rs b.held) (omega (arith, s.standing.short))))
      (record {
        moves = one (drops r rs e n);
        sound = record {
          standing = record {
            accounts = on_page past base b.held.lines Dropped r.number (one_dropped [] r rs (subst (λ (q : List Report). AccountsOf past base b.reports a q b.held) e s.standing.accounts));
            is = s.standing.is;
            short = omega (arith, s.standing.short, length_push b.held.lines (line Dropped r.number));
            fits = omega (arith, s.standing.fits);
            small = s.standing.small;
            low = s.standing.low;
          };
          busy = λ t. absurd (not_empty r rs (sym e ∙ s.busy t));
          oldest = subst (λ (p : Option OpenReport). OldestOpen p rs b.held.spool.records b.held.spooling.unload) (sym n) tt;
        };
      })

  drop_all : (xs : List Report) (b : Book) → b.held.queue.records ≡ xs → b.held.pending ≡ None → Sound past base k a b → Kept o past base k a b (with_held (dropped_all xs b.held) b)
  drop_all [] b e n s = record { moves = stays; sound = s }
  drop_all (r ∷ rs) b e n s =
      let h : Holding = add_line Dropped r.number (with_queue rs b.held) in
      let g : Holding = dropped_at (Some r.number) b.held in
      let p : g ≡ h = ap (λ (q : List Report). add_line Dropped r.number (with_queue q b.held)) (ap after_remove e) in
      let x : Kept o past base k a b (with_held g b) = subst (λ (z : Holding). Kept o past base k a b (with_held z b)) (sym p) (drop_one b r rs e n s) in
      kept_then x (drop_all rs (with_held g b) (ap after_remove e) n x.sound)

  pub dropped_kept : (b : Book) → b.held.pending ≡ None → Sound past base k a b → Kept o past base k a b (with_held (dropped b.held) b)
  unfolding dropped
  dropped_kept b n s = drop_all b.held.queue.records b refl n s

-- the queue moves to a spool that is active
module _ (o : Bool) (past base : List Line) (k : ℕ) (room : k ≤ 28) where
  pub record Moved (b c : Book) : Type 0 where
    pub moves : Moves o b c
    pub standing : Standing past base k true c
    pub empty : c.held.queue.records ≡ []
    pub none : c.held.pending ≡ None

  move_one : (b : Book) (r : Report) (rs : List Report) (h : Holding) → b.held.queue.records ≡ r ∷ rs → Standing past base k true b
      → Directed past base b.reports o r rs (with_queue rs b.held) h → Standing past base k true (with_held h b)
  move_one b r rs h e s d =
      let q : h.queue.records ≡ rs = ap (λ (z : Shelf). z.records) d.queue in
      let l : h.queue.limit ≡ b.held.queue.limit = ap (λ (z : Shelf). z.limit) d.queue in
      let m : length h.queue.records ≡ length rs = ap length q in
      let n : length b.held.queue.records ≡ length (r ∷ rs) = ap length e in
      record {
        accounts = subst (λ (z : List Report). AccountsOf past base b.reports true z h) (sym q) d.accounts;
        is = d.active ∙ s.is;
        short = omega (arith, s.short, d.lines);
        fits = omega (arith, s.fits);
        small = omega (arith, s.small);
        low = s.low;
      }

  move_all : (xs : List Report) (b : Book) → b.held.queue.records ≡ xs → b.held.pending ≡ None → Standing past base k true b → Moved b (with_held (moved_all o xs b.held) b)
  move_all [] b e n s = record { moves = stays; standing = s; empty = e; none = n }
  move_all (r ∷ rs) b e n s =
      let m : length b.held.queue.records ≡ length (r ∷ rs) = ap length e in
      let d = directed_way past base b.reports o r rs (with_queue rs b.held) (subst (λ (z : List Report). AccountsOf past base b.reports true z b.held) e s.accounts) (omega (arith, s.short)) (omega (arith, s.low)) in
      let h : Holding = directed o r (with_queue rs b.held) in
      let x = move_all rs (with_held h b) (ap (λ (z : Shelf). z.records) d.queue) (d.none n) (move_one b r rs h e s d) in
      record { moves = joined (one (directs r rs e s.is n d.way)) x.moves; standing = x.standing; empty = x.empty; none = x.none }

  pub moved_kept : (b : Book) → b.held.pending ≡ None → Standing past base k true b → Moved b (with_held (moved o b.held) b)
  unfolding moved
  moved_kept b n s = move_all b.held.queue.records b refl n s

-- an INACTIVE spool becomes ACTIVE and takes the queue
pub activated_kept : (o : Bool) (past base : List Line) (k : ℕ) (b : Book) → k ≤ 28 → b.held.pending ≡ None → length (numbers_of is_spool_end b.held.lines) ≡ 0 → Sound past base k false b
    → Kept o past [] k true b (with_held (activated o b.held) b)
unfolding activated
activated_kept o past base k b room n z s =
    let t = s.standing in
    let h : Holding = with_spooling (record { active = true; full = b.held.spooling.full; unload = b.held.spooling.unload; total = 0; acknowledged = b.held.spooling.acknowledged }) b.held in
    let x = moved_kept o past [] k room (with_held h b) n
    (record { accounts = activated-accounts b.held.lines z refl t.accounts; is = refl; short = t.short; fits = t.fits; small = t.small; low = t.low }) in
    record {
      moves = joined (one (activates t.is n)) x.moves;
      sound = record {
        standing = x.standing;
        busy = λ _. x.empty;
        oldest = subst (λ (p : Option OpenReport). OldestOpen p (moved o h).queue.records (moved o h).spool.records (moved o h).spooling.unload) (sym x.none) tt;
      };
    }

module _ (o : Bool) (past base : List Line) (k : ℕ) (a : Bool) (b : Book) (s : Sound past base k a b) where
  -- communications and control move
  pub turned_kept : (l : Link) (c : Control) → Kept o past base k a b (record { held = b.held; reports = b.reports; link = l; control = c })
  turned_kept l c =
      let t = s.standing in
      record { moves = one (turns l c); sound = record { standing = record { accounts = t.accounts; is = t.is; short = t.short; fits = t.fits; small = t.small; low = t.low }; busy = s.busy; oldest = s.oldest } }

  -- the open report closes, unremoved
  pub closed_kept : Kept o past base k a b (with_held (with_pending None b.held) b)
  closed_kept =
      let t = s.standing in
      record { moves = one closes; sound = record { standing = record { accounts = t.accounts; is = t.is; short = t.short; fits = t.fits; small = t.small; low = t.low }; busy = s.busy; oldest = tt } }

  -- the spool unloads in another way
  pub unloads_kept : (u : Unload) (n : ℕ) → b.held.pending ≡ None → n ≤ b.held.spooling.acknowledged → Move o b (with_held (unloads u n b.held) b) → Kept o past base k a b (with_held (unloads u n b.held) b)
  unloads_kept u n e l x =
      let t = s.standing in
      record {
        moves = one x;
        sound = record {
          standing = record { accounts = recounted n l t.accounts; is = t.is; short = t.short; fits = t.fits; small = t.small; low = t.low };
          busy = s.busy;
          oldest = subst (λ (p : Option OpenReport). OldestOpen p b.held.queue.records b.held.spool.records u) (sym e) tt;
        };
      }

  -- a transmit goes to no output
  pub halted_kept : b.held.spooling.unload ≡ Transmit → b.held.pending ≡ None → Kept o past base k a b (with_held (unloads NoOutput b.held.spooling.acknowledged b.held) b)
  halted_kept u e = unloads_kept NoOutput b.held.spooling.acknowledged e (omega arith) (halts u e)

  -- an empty spool becomes INACTIVE
  pub deactivated_kept : b.held.spool.records ≡ [] → Kept o past base k false b (with_held (deactivated b.held) b)
  deactivated_kept e =
      let t = s.standing in
      record {
        moves = one (deactivates e);
        sound = record {
          standing = record {
            accounts = subst AccountsAt (sym e) (deactivated-accounts (subst AccountsBefore e t.accounts));
            is = refl;
            short = t.short;
            fits = t.fits;
            small = t.small;
            low = t.low;
          };
          busy = λ u. absurd (false≢true u);
          oldest = ended b.held.pending s.oldest;
        };
      }
    where
      AccountsBefore : List Report → Type 0
      AccountsBefore xs = Accounts b.held.queue.records xs (past ++ b.held.lines) (base ++ b.held.lines) b.reports b.held.spooling.total b.held.spooling.acknowledged b.held.spool.limit a

      AccountsAt : List Report → Type 0
      AccountsAt xs = Accounts b.held.queue.records xs (past ++ b.held.lines) (base ++ b.held.lines) b.reports b.held.spooling.total b.held.spooling.acknowledged b.held.spool.limit false

      from : (p : OpenReport) (x : Source) → OpensFrom x p b.held.queue.records b.held.spool.records b.held.spooling.unload → OpensFrom x p b.held.queue.records b.held.spool.records NoOutput
      from p Queue w = w
      from p Spool w = absurd (subst (OpensFirst p) e w.0)

      ended : (p : Option OpenReport) → OldestOpen p b.held.queue.records b.held.spool.records b.held.spooling.unload → OldestOpen p b.held.queue.records b.held.spool.records NoOutput
      ended None w = tt
      ended (Some p) w = from p p.source w

  -- the oldest report of a store is sent, and stays in it
  pub opened_kept : (p : OpenReport) → b.held.pending ≡ None → OpensFrom p.source p b.held.queue.records b.held.spool.records b.held.spooling.unload
      → Kept o past base k a b (with_held (with_pending (Some p) b.held) b)
  opened_kept p n w =
      let t = s.standing in
      record {
        moves = by p.source refl w b.held.queue.records refl b.held.spool.records refl;
        sound = record { standing = record { accounts = t.accounts; is = t.is; short = t.short; fits = t.fits; small = t.small; low = t.low }; busy = s.busy; oldest = w };
      }
    where
      by : (x : Source) → p.source ≡ x → OpensFrom x p b.held.queue.records b.held.spool.records b.held.spooling.unload
          → (xs : List Report) → b.held.queue.records ≡ xs → (ys : List Report) → b.held.spool.records ≡ ys → Moves o b (with_held (with_pending (Some p) b.held) b)
      by Queue e v [] f ys g = absurd (subst (OpensFirst p) f v)
      by Queue e v (r ∷ rs) f ys g = let u : OpensFirst p (r ∷ rs) = subst (OpensFirst p) f v in one (opens p r rs n e f u.0 u.1)
      by Spool e v xs f [] g = absurd (subst (OpensFirst p) g v.0)
      by Spool e v xs f (r ∷ rs) g = let u : OpensFirst p (r ∷ rs) = subst (OpensFirst p) g v.0 in one (opens_spooled p r rs n e g u.0 u.1)

-- a spool that holds a report is ACTIVE, a queue that does has an INACTIVE one
pub held_active : {past base : List Line} {k : ℕ} (a : Bool) {b : Book} → Sound past base k a b → (r : Report) (rs : List Report) → b.held.spool.records ≡ r ∷ rs → a ≡ true
held_active true s r rs e = refl
held_active false s r rs e = absurd (not_empty r rs (sym e ∙ s.standing.accounts.idle refl))

pub waiting_inactive : {past base : List Line} {k : ℕ} (a : Bool) {b : Book} → Sound past base k a b → (r : Report) (rs : List Report) → b.held.queue.records ≡ r ∷ rs → a ≡ false
waiting_inactive true s r rs e = absurd (not_empty r rs (sym e ∙ s.busy refl))
waiting_inactive false s r rs e = refl

module _ (o : Bool) (past base : List Line) (k : ℕ) (a : Bool) (b : Book) (s : Sound past base k a b) (room : k ≤ 28) where
  -- while the spool is purged, no report is open
  none_open : (r : Report) (rs : List Report) → b.held.spool.records ≡ r ∷ rs → b.held.spooling.unload ≡ Purge → b.held.pending ≡ None
  none_open r rs e u = go b.held.pending refl s.oldest
    where
      not_both : Transmit ≡ Purge → ⊥
      not_both w = let z : ◌≡◌ {A = ℕ} 0 1 = cc in omega arith

      from : (p : OpenReport) (x : Source) → OpensFrom x p b.held.queue.records b.held.spool.records b.held.spooling.unload → ⊥
      from p Queue w = subst (OpensFirst p) (s.busy (held_active a s r rs e)) w
      from p Spool w = not_both (sym w.1 ∙ u)

      go : (p : Option OpenReport) → b.held.pending ≡ p → OldestOpen p b.held.queue.records b.held.spool.records b.held.spooling.unload → b.held.pending ≡ None
      go None n w = n
      go (Some p) n w = absurd (from p p.source w)

  abbrev SpoolAt : List Report → Type 0
  SpoolAt xs = Accounts b.held.queue.records xs (past ++ b.held.lines) (base ++ b.held.lines) b.reports b.held.spooling.total b.held.spooling.acknowledged b.held.spool.limit a

  -- P
  pub purged_kept : (r : Report) (rs : List Report) → b.held.spool.records ≡ r ∷ rs → b.held.spooling.unload ≡ Purge
      → Kept o past base (k + 2) a b (with_held (purged_at (Some r.number) b.held) b)
  purged_kept r rs e u =
      let t = s.standing in
      let n = none_open r rs e u in
      subst (λ (h : Holding). Kept o past base (k + 2) a b (with_held h b))
      (sym (ap (λ (xs : List Report). add_line Purged r.number (with_spool xs b.held)) (ap after_remove e) ∙ said_is Purged r.number (with_spool rs b.held) (omega (arith, t.short))))
      (record {
        moves = one (purges r rs e n u);
        sound = record {
          standing = record {
            accounts = on_page past base b.held.lines Purged r.number (front_gone Purged r refl refl refl refl (subst SpoolAt e t.accounts));
            is = t.is;
            short = omega (arith, t.short, length_push b.held.lines (line Purged r.number));
            fits = t.fits;
            small = t.small;
            low = omega (arith, t.low);
          };
          busy = s.busy;
          oldest = subst (λ (p : Option OpenReport). OldestOpen p b.held.queue.records rs b.held.spooling.unload) (sym n) tt;
        };
      })

  -- A
  queue_kept : (p : OpenReport) → b.held.pending ≡ Some p → p.source ≡ Queue → (r : Report) (rs : List Report) → b.held.queue.records ≡ r ∷ rs
      → Kept o past base (k + 2) a b (with_held (add_line Acknowledged r.number (with_pending None (with_queue rs b.held))) b)
  queue_kept p n f r rs e =
      let t = s.standing in
      let i : b.held.spool.records ≡ [] = t.accounts.idle (waiting_inactive a s r rs e) in
      let l : length b.held.queue.records ≡ length (r ∷ rs) = ap length e in
      subst (λ (h : Holding). Kept o past base (k + 2) a b (with_held h b)) (sym (said_is Acknowledged r.number (with_pending None (with_queue rs b.held)) (omega (arith, t.short))))
      (record {
        moves = one (acknowledges p r rs n f e);
        sound = record {
          standing = record {
            accounts = subst After (sym i) (on_page past base b.held.lines Acknowledged r.number (queue_acknowledged r (subst₂ Before e i t.accounts)));
            is = t.is;
            short = omega (arith, t.short, length_push b.held.lines (line Acknowledged r.number));
            fits = omega (arith, t.fits);
            small = t.small;
            low = omega (arith, t.low);
          };
          busy = λ u. absurd (not_empty r rs (sym e ∙ s.busy u));
          oldest = tt;
        };
      })
    where
      Before : List Report → List Report → Type 0
      Before xs ys = Accounts xs ys (past ++ b.held.lines) (base ++ b.held.lines) b.reports b.held.spooling.total b.held.spooling.acknowledged b.held.spool.limit a

      After : List Report → Type 0
      After ys = Accounts rs ys (past ++ plus b.held.lines Acknowledged r.number) (base ++ plus b.held.lines Acknowledged r.number) b.reports b.held.spooling.total b.held.spooling.acknowledged b.held.spool.limit a

  -- B
  spool_kept : (p : OpenReport) → b.held.pending ≡ Some p → p.source ≡ Spool → (r : Report) (rs : List Report) → b.held.spool.records ≡ r ∷ rs
      → Kept o past base (k + 2) a b (with_held (add_line SpoolAcknowledged r.number (unloads b.held.spooling.unload (one_more b.held.spooling.acknowledged) (with_pending None (with_spool rs b.held)))) b)
  spool_kept p n f r rs e =
      let t = s.standing in
      let l : length b.held.spool.records ≡ length (r ∷ rs) = ap length e in
      let m : one_more b.held.spooling.acknowledged ≡ b.held.spooling.acknowledged + 1 = omega (arith, t.accounts.done, t.low) in
      subst (λ (h : Holding). Kept o past base (k + 2) a b (with_held h b))
      (sym (ap (λ (x : ℕ). add_line SpoolAcknowledged r.number (unloads b.held.spooling.unload x (with_pending None (with_spool rs b.held)))) m
      ∙ said_is SpoolAcknowledged r.number (unloads b.held.spooling.unload (b.held.spooling.acknowledged + 1) (with_pending None (with_spool rs b.held))) (omega (arith, t.short))))
      (record {
        moves = one (acknowledges_spooled p r rs n f e);
        sound = record {
          standing = record {
            accounts = on_page past base b.held.lines SpoolAcknowledged r.number (spool_acknowledged r (subst SpoolAt e t.accounts));
            is = t.is;
            short = omega (arith, t.short, length_push b.held.lines (line SpoolAcknowledged r.number));
            fits = t.fits;
            small = t.small;
            low = omega (arith, t.low);
          };
          busy = s.busy;
          oldest = tt;
        };
      })

  -- the open report is acknowledged
  pub acknowledged_kept : Kept o past base (k + 2) a b (with_held (acknowledged b.held) b)
  unfolding acknowledged
  acknowledged_kept = go b.held.pending refl s.oldest
    where
      K : Holding → Type 0
      K h = Kept o past base (k + 2) a b (with_held h b)

      by_queue : (p : OpenReport) → b.held.pending ≡ Some p → p.source ≡ Queue → (xs : List Report) → b.held.queue.records ≡ xs → OpensFirst p xs → K (queue_acked_at (oldest_number xs) (with_pending None b.held))
      by_queue p n f [] e w = absurd w
      by_queue p n f (r ∷ rs) e w = subst K (ap (λ (xs : List Report). add_line Acknowledged r.number (with_pending None (with_queue xs b.held))) (sym (ap after_remove e))) (queue_kept p n f r rs e)

      by_spool : (p : OpenReport) → b.held.pending ≡ Some p → p.source ≡ Spool → (xs : List Report) → b.held.spool.records ≡ xs → OpensFirst p xs → K (spool_acked_at (oldest_number xs) (with_pending None b.held))
      by_spool p n f [] e w = absurd w
      by_spool p n f (r ∷ rs) e w =
          subst K (ap (λ (xs : List Report). add_line SpoolAcknowledged r.number (unloads b.held.spooling.unload (one_more b.held.spooling.acknowledged) (with_pending None (with_spool xs b.held)))) (sym (ap after_remove e))) (spool_kept p n f r rs e)

      from : (p : OpenReport) → b.held.pending ≡ Some p → (x : Source) → p.source ≡ x → OpensFrom x p b.held.queue.records b.held.spool.records b.held.spooling.unload → K (acknowledged_from x (with_pending None b.held))
      from p n Queue f w = by_queue p n f b.held.queue.records refl w
      from p n Spool f w = by_spool p n f b.held.spool.records refl w.0

      go : (p : Option OpenReport) → b.held.pending ≡ p → OldestOpen p b.held.queue.records b.held.spool.records b.held.spooling.unload → K (acknowledged_at p b.held)
      go None n w = kept_wider (k + 2) (omega arith) (kept_none s)
      go (Some p) n w = from p n p.source refl w
