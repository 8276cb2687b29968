-- A leader writes an entry.
use Rattle.std.proofs.Common.{◌≡◌, ℕ, zero, suc, ◌<◌, List, [], ◌∷◌, ◌++◌, length, Some, None, Bool, true, false, refl, sym, ap, ◌∙◌, subst, arith, inl, inr, ⊎_elim, length-append}
use Rattle.std.specs.Prelude.{slice_get, ◌⊎◌}
use Rattle.std.proofs.lemmas.Bool.{cases_eq, or_right}
use Rattle.std.proofs.lemmas.Option.{slice_get_within}
use Rattle.raft_laws.specs.BallotLists.{AgreeBelow}
use Rattle.raft_laws.specs.BallotLogs.{Payload, BallotEntry}
use Rattle.raft_laws.specs.BallotWorld.{BallotGroup, BallotWorld, written}
use Rattle.raft_laws.proofs.BallotAgreement.{agree_refl, agree_sym, agree_trans, agree_less, agree_append, same_some, with_value_cases, with_value_same, with_value_other}
use Rattle.raft_laws.proofs.BallotSafe.{among_new, GoodLog, NodeOk, ReplyOk, Safe}
use Rattle.raft_laws.proofs.BallotStep.{Grows, Shows, keeps_grown, good_on, sure_on, sure_more}
use Rattle.raft_laws.proofs.BallotFacts.{ballots_with, logs_with, replies_with}

-- an element of a list with one more at its end
pub at_more : {A : Type 0} (xs : List A) (y : A) (j : ℕ) (z : A) → slice_get (xs ++ y ∷ []) j ≡ Some z → (slice_get xs j ≡ Some z) ⊎ ((j ≡ length xs) × (z ≡ y))
at_more [] y zero z e = inr (refl, sym (same_some e))
at_more [] y (suc j) z e = absurd (let f : None ≡ Some z = e in cc)
at_more (x ∷ xs) y zero z e = inl e
at_more (x ∷ xs) y (suc j) z e = ⊎_elim (λ a. inl a) (λ a. inr (ap suc a.0, a.1)) (at_more xs y j z e)

-- the leader's log with one more entry
good_more : {lead : ℕ → List BallotEntry} {led : ℕ → Bool} (xs : List BallotEntry) (y : BallotEntry) → GoodLog lead led xs y.ballot → lead y.ballot ≡ xs ++ y ∷ [] → led y.ballot ≡ true → GoodLog lead led (xs ++ y ∷ []) y.ballot
good_more {lead} {led} xs y good is is-led =
    record {
      matches = λ j x e.
          ⊎_elim
          (λ a. agree_trans (agree_less (suc j) (slice_get_within xs j x a) (agree_sym (agree_append xs (y ∷ [])))) (good.matches j x a))
          (λ a.
          let here = sym is ∙ ap (λ z. lead z.ballot) (sym a.1) in
          subst (λ l. AgreeBelow (suc j) (xs ++ y ∷ []) l) here
          (agree_refl (suc j) (xs ++ y ∷ []) (omega (arith, a.0, length-append xs (y ∷ [])))))
          (at_more xs y j x e);
      known = λ j x e pos.
          ⊎_elim (λ a. good.known j x a pos) (λ a. subst (λ z. led z.ballot ≡ true) (sym a.1) is-led) (at_more xs y j x e);
      rising = λ j k x z l e f.
          ⊎_elim
          (λ a. ⊎_elim
          (λ b. good.rising j k x z l a b)
          (λ b. let c = good.capped j x a in let same = ap (λ q. q.ballot) b.1 in omega (arith, c, same))
          (at_more xs y k z f))
          (λ a. ⊎_elim
          (λ b. absurd (omega (arith, a.0, slice_get_within xs k z b)))
          (λ b. let p = ap (λ q. q.ballot) a.1 in let q' = ap (λ q. q.ballot) b.1 in omega (arith, p, q'))
          (at_more xs y k z f))
          (at_more xs y j x e);
      capped = λ j x e.
          ⊎_elim (λ a. good.capped j x a) (λ a. let same = ap (λ q. q.ballot) a.1 in omega (arith, same)) (at_more xs y j x e);
    }

module _ (g : BallotGroup) (w : BallotWorld) (n : ℕ) (payload : Payload) (leads : (w.node n).committed ≡ true) (pos : 0 < (w.node n).ballot) (o : g.owner (w.node n).ballot ≡ n) (ok : Safe g w) where
  abbrev new : BallotEntry
  new = record { ballot = (w.node n).ballot; payload = payload }

  lead_is : (w.node n).log ≡ w.lead (w.node n).ballot
  lead_is = ((ok.node n).leads leads pos o).0

  led_is : w.led (w.node n).ballot ≡ true
  led_is = ((ok.node n).leads leads pos o).1

  grows : Grows g n w (written w n payload)
  grows =
      record {
        lead = λ c.
            with_value_cases w.lead (w.node n).ballot ((w.node n).log ++ new ∷ []) c (λ xs. AgreeBelow (length (w.lead c)) (w.lead c) xs)
            (λ e. subst (λ xs. AgreeBelow (length xs) xs ((w.node n).log ++ new ∷ [])) (lead_is ∙ ap w.lead (sym e)) (agree_append (w.node n).log (new ∷ [])))
            (λ ne. agree_refl _ _ (omega arith));
        led = λ c l. l;
        others = λ c ne.
            let other = λ (e : c ≡ (w.node n).ballot). ne (ap g.owner e ∙ o) in
            (with_value_other w.lead _ _ c other, refl);
        ballots = ballots_with w n _ (omega arith);
        stood = λ c le. refl;
        replies = replies_with w _ (omega arith);
        accepted = λ v i m t. or_right _ _ t;
      }

  good : GoodLog (written w n payload).lead (written w n payload).led ((w.node n).log ++ new ∷ []) (w.node n).ballot
  good = good_more (w.node n).log new (good_on grows (w.node n).ballot (omega arith) (ok.node n).log) (with_value_same w.lead _ _) led_is

  node_ok : NodeOk g (written w n payload) n (record (w.node n) { log = (w.node n).log ++ new ∷ [] })
  node_ok =
      record {
        log = good;
        leads = λ c q p. (sym (with_value_same w.lead _ _), led_is);
        stands = λ c q p. absurd (let e : true ≡ false = sym leads ∙ c in cc);
        own = λ c l p. (((ok.node n).own c l p).0, λ e. leads);
        sure = sure_more (agree_append (w.node n).log (new ∷ [])) (sure_on grows (w.node n).ballot (omega arith) (ok.node n).sure);
      }

  reply_ok : ReplyOk g (written w n payload) (record { ballot = (w.node n).ballot; node = n; upto = suc (length (w.node n).log) })
  reply_ok =
      let all : AgreeBelow (suc (length (w.node n).log)) ((w.node n).log ++ new ∷ []) ((w.node n).log ++ new ∷ []) =
      agree_refl _ _ (omega (arith, length-append (w.node n).log (new ∷ [])))
      in
      let there : AgreeBelow (suc (length (w.node n).log)) ((w.node n).log ++ new ∷ []) ((written w n payload).lead (w.node n).ballot) =
      subst (λ xs. AgreeBelow (suc (length (w.node n).log)) ((w.node n).log ++ new ∷ []) xs) (sym (with_value_same w.lead _ _)) all
      in
      record {
        led = led_is;
        voted = grows.ballots n;
        within = there.right;
        kept = λ i l open'.
            inl (with_value_cases w.node n _ n (λ x. AgreeBelow (suc i) x.log ((written w n payload).lead (w.node n).ballot))
            (λ e. agree_less (suc i) l there)
            (λ ne. absurd (ne refl)));
      }

  pub shows : Shows g n w (written w n payload)
  shows =
      record {
        grows = grows;
        keeps = keeps_grown (logs_with w n _ (agree_append (w.node n).log (new ∷ [])));
        same = λ m ne. with_value_other w.node n _ m ne;
        node = subst (NodeOk g (written w n payload) n) (sym (with_value_same w.node n _)) node_ok;
        leads = λ c.
            with_value_cases w.lead (w.node n).ballot ((w.node n).log ++ new ∷ []) c (λ xs. (xs ≡ w.lead c) ⊎ GoodLog (written w n payload).lead (written w n payload).led xs c)
            (λ e. inr (subst (GoodLog (written w n payload).lead (written w n payload).led ((w.node n).log ++ new ∷ [])) (sym e) good))
            (λ ne. inl refl);
        unled = λ c q f.
            ⊎_elim
            (λ e. absurd (let t : true ≡ false = sym led_is ∙ ap w.led (sym e) ∙ f in cc))
            (λ ne. with_value_other w.lead _ _ c ne ∙ ok.unled c q f)
            (cases_eq c (w.node n).ballot);
        stood = λ c. inl refl;
        requests = λ r a. inl a;
        grants = λ q a. inl a;
        appends = λ p a. inl a;
        replies = λ r a. among_new (ReplyOk g (written w n payload)) r _ w.replies reply_ok a;
        above = λ u l. inl l;
      }
