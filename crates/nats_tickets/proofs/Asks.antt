-- Requests that wait, found by their tickets and by the subjects of their replies.
use Rattle.std.specs.Prelude.{⊤}
use Rattle.std.specs.Option.{option_map}
use Rattle.std.specs.Map.{remove_entry}
use Rattle.nats_history.specs.Queue.{first}
use Rattle.std.specs.BTreeMap.{is_at, insert_entry}
use Rattle.std.specs.Str.{bytes_eq}
use Rattle.std.specs.List.{AllByRecursion}
use Rattle.std.specs.List.Sorted.{IsStrictlySortedBy}
use Rattle.std.specs.Cmp.{ranks, nat_cmp_is}
use Rattle.std.specs.Ordering.{MatchOrdering, match_ordering}
use Rattle.std.proofs.Common.{◌≡◌, map, ℕ, suc, ◌+◌, ◌<◌, ◌≤◌, ◌==◌, Bool, true, false, cond, ◌||◌, List, [], ◌∷◌, ◌++◌, drop, length, Option, Some, None, is_some, Less, Greater, nat_cmp, refl, sym, ◌∙◌, ap, subst, arith, ◌⊎◌, inl, inr}
use Rattle.std.proofs.lemmas.Bool.{false≢true, eqb-true, eqb-false, eq-eqb, ne_eqb}
use Rattle.std.proofs.lemmas.Option.{none-some, same_Some}
use Rattle.std.proofs.lemmas.Map.Text.{is_eq-slice_cmp}
use Rattle.std.proofs.lemmas.Slice.Eq.{bytes_eq-Decides}
use Rattle.nats_tables.specs.Rows.{look, UpdatedAt}
use Rattle.nats_tables.proofs.Tables.{at_same, at_apart}
use Rattle.nats_history.specs.Tickets.{request_at, requests_elsewhere, waits_for_reply, requests_but, ticket_in}
use Rattle.nats_tickets.specs.Asking.{is_it, find, found_but, AllBelow, AllUnder, Indexed, but_if, gone_at, found_but_if}
use Rattle.nats_tickets.specs.Kept.{one_if, bit}

abbrev pub Requests : Type 0
Requests = List (ℕ × List ℕ)

pub at_is : (s k : ℕ) → is_at (nat_cmp s) k ≡ (s == k)
at_is s k = by (s == k) refl
  where
    by : (b : Bool) → (s == k) ≡ b → is_at (nat_cmp s) k ≡ b
    by true e = at_same s k (eqb-true s k e)
    by false e = at_apart s k (λ same. false≢true (sym e ∙ eq-eqb s k same))

pub it_is : (a b : List ℕ) → is_it a b ≡ bytes_eq a b
it_is a b = is_eq-slice_cmp a b

-- ---- one taken away

pub but_is : (t : ℕ) (es : Requests) → remove_entry (is_at (nat_cmp t)) es ≡ requests_but t es
but_is t [] = refl
but_is t (e ∷ es) =
    ap (λ b. cond b es (e ∷ remove_entry (is_at (nat_cmp t)) es)) (at_is t e.0) ∙ ap (λ xs. cond (t == e.0) es (e ∷ xs)) (but_is t es)

pub waits_is : (t : ℕ) (es : Requests) → waits_for_reply t es ≡ is_some (look t es)
waits_is t [] = refl
waits_is t (e ∷ es) = by (t == e.0) (at_is t e.0) (waits_is t es)
  where
    by : (b : Bool) → is_at (nat_cmp t) e.0 ≡ b → waits_for_reply t es ≡ is_some (look t es) → (b || waits_for_reply t es) ≡ is_some (cond (is_at (nat_cmp t) e.0) (Some e.1) (look t es))
    by true is later = sym (ap (λ b. is_some (cond b (Some e.1) (look t es))) is)
    by false is later = later ∙ sym (ap (λ b. is_some (cond b (Some e.1) (look t es))) is)

pub none_but : (t : ℕ) (es : Requests) → look t es ≡ None → requests_but t es ≡ es
none_but t [] none = refl
none_but t (e ∷ es) none = by (t == e.0) (at_is t e.0) (none_but t es)
  where
    by : (b : Bool) → is_at (nat_cmp t) e.0 ≡ b → (look t es ≡ None → requests_but t es ≡ es) → cond b es (e ∷ requests_but t es) ≡ e ∷ es
    by true is rest =
        absurd (none-some e.1 (sym none ∙ ap (λ b. cond b (Some e.1) (look t es)) is))
    by false is rest =
        ap (λ xs. e ∷ xs) (rest (sym (ap (λ b. cond b (Some e.1) (look t es)) is) ∙ none))

-- ---- those of one subject

-- a subject stands nowhere but at a ticket
Leads : List ℕ → Option ℕ → Requests → Type 0
Leads subject o [] = ⊤
Leads subject o (e ∷ es) = (bytes_eq subject e.1 ≡ true → o ≡ Some e.0) × Leads subject o es

none_there : (subject : List ℕ) (es : Requests) → Leads subject None es → (None ≡ request_at subject es) × (es ≡ requests_elsewhere subject es)
unfolding Leads
none_there subject [] leads = (refl, refl)
none_there subject (e ∷ es) leads = by (bytes_eq subject e.1) leads.0 (none_there subject es leads.1)
  where
    by : (b : Bool) → (b ≡ true → None ≡ Some e.0) → (None ≡ request_at subject es) × (es ≡ requests_elsewhere subject es)
        → (None ≡ cond b (Some e.0) (request_at subject es)) × (e ∷ es ≡ cond b es (e ∷ requests_elsewhere subject es))
    by true here later = absurd (none-some e.0 (here refl))
    by false here later = (later.0, ap (λ xs. e ∷ xs) later.1)

same_bytes : (a b : List ℕ) → bytes_eq a b ≡ true → a ≡ b
same_bytes a b e = (bytes_eq-Decides a b).0 e

bytes_same : (a b : List ℕ) → a ≡ b → bytes_eq a b ≡ true
bytes_same a b e = (bytes_eq-Decides a b).1 e

some_there : (subject : List ℕ) (t : ℕ) (es : Requests) → Leads subject (Some t) es → look t es ≡ Some subject → (Some t ≡ request_at subject es) × (requests_but t es ≡ requests_elsewhere subject es)
unfolding Leads
some_there subject t [] leads is = absurd (none-some subject is)
some_there subject t (e ∷ es) leads is = by (bytes_eq subject e.1) refl leads.0 (some_there subject t es leads.1)
  where
    apart : (b : Bool) → (t == e.0) ≡ b → bytes_eq subject e.1 ≡ false
        → (look t es ≡ Some subject → (Some t ≡ request_at subject es) × (requests_but t es ≡ requests_elsewhere subject es))
        → (Some t ≡ request_at subject es) × (cond b es (e ∷ requests_but t es) ≡ e ∷ requests_elsewhere subject es)
    apart true same not rest =
        let here : Some e.1 ≡ Some subject = sym (ap (λ b. cond b (Some e.1) (look t es)) (at_is t e.0 ∙ same)) ∙ is in
        absurd (false≢true (sym not ∙ bytes_same subject e.1 (sym (same_Some e.1 subject here))))
    apart false other not rest =
        let later = rest (sym (ap (λ b. cond b (Some e.1) (look t es)) (at_is t e.0 ∙ other)) ∙ is) in
        (later.0, ap (λ xs. e ∷ xs) later.1)

    by : (b : Bool) → bytes_eq subject e.1 ≡ b → (b ≡ true → Some t ≡ Some e.0)
        → (look t es ≡ Some subject → (Some t ≡ request_at subject es) × (requests_but t es ≡ requests_elsewhere subject es))
        → (Some t ≡ cond b (Some e.0) (request_at subject es)) × (requests_but t (e ∷ es) ≡ cond b es (e ∷ requests_elsewhere subject es))
    by true here lead rest =
        (lead refl, ap (λ b. cond b es (e ∷ requests_but t es)) (eq-eqb t e.0 (same_Some t e.0 (lead refl))))
    by false not lead rest = apart (t == e.0) refl not rest

-- ---- each request is found by its own ticket

Itself : Requests → Requests → Type 0
Itself all [] = ⊤
Itself all (e ∷ es) = (look e.0 all ≡ Some e.1) × Itself all es

abbrev keys : Requests → List ℕ
keys es = map (λ e. e.0) es

later : (k : ℕ) (v : List ℕ) (all es : Requests) → AllByRecursion (λ y. nat_cmp k y ≡ Less) (keys es) → Itself all es → Itself ((k, v) ∷ all) es
unfolding Itself
later k v all [] above is = tt
later k v all (e ∷ es) above is =
    let less : k < e.0 = is_below k e.0 above.0 in
    (ap (λ b. cond b (Some v) (look e.0 all)) (at_apart e.0 k (λ same. omega (arith, same, less))) ∙ is.0, later k v all es above.1 is.1)
  where
    is_below : (n q : ℕ) → nat_cmp n q ≡ Less → n < q
    is_below n q same = subst (λ r. MatchOrdering r (n < q) (n ≡ q) (q < n)) same (ranks n q)

itself : (es : Requests) → IsStrictlySortedBy nat_cmp (keys es) → Itself es es
unfolding Itself IsStrictlySortedBy
itself [] sorted = tt
itself (e ∷ es) sorted =
    (ap (λ b. cond b (Some e.1) (look e.0 es)) (at_same e.0 e.0 refl), later e.0 e.1 es es sorted.0 (itself es sorted.1))

leads_all : (subject : List ℕ) (all es : Requests) (index : List (List ℕ × ℕ)) → Indexed all index → Itself all es → Leads subject (find subject index) es
unfolding Leads Itself
leads_all subject all [] index indexed is = tt
leads_all subject all (e ∷ es) index indexed is =
    ((λ same. ap (λ s. find s index) (same_bytes subject e.1 same) ∙ indexed.found e.0 e.1 is.0), leads_all subject all es index indexed is.1)

-- what the index finds is the one that waits for the subject
pub found_is : (subject : List ℕ) (es : Requests) (index : List (List ℕ × ℕ)) → Indexed es index → IsStrictlySortedBy nat_cmp (keys es)
    → (find subject index ≡ request_at subject es) × (but_if (find subject index) es ≡ requests_elsewhere subject es)
found_is subject es index indexed sorted = by (find subject index) refl (leads_all subject es es index indexed (itself es sorted))
  where
    by : (o : Option ℕ) → find subject index ≡ o → Leads subject o es → (o ≡ request_at subject es) × (but_if o es ≡ requests_elsewhere subject es)
    by None is leads = none_there subject es leads
    by (Some t) is leads = some_there subject t es leads (indexed.leads subject t is)

-- ---- the index after a change

abbrev pub Finds : (List ℕ → Option ℕ) → List (List ℕ × ℕ) → Type 0
Finds f index = (other : List ℕ) → find other index ≡ f other

it_same : (a b : List ℕ) → a ≡ b → is_it a b ≡ true
it_same a b e = it_is a b ∙ bytes_same a b e

it_apart : (a b : List ℕ) → (a ≡ b → ⊥) → is_it a b ≡ false
it_apart a b apart = by (bytes_eq a b) refl
  where
    by : (b' : Bool) → bytes_eq a b ≡ b' → is_it a b ≡ false
    by true e = absurd (apart (same_bytes a b e))
    by false e = it_is a b ∙ e

cases_it : (a b : List ℕ) → (a ≡ b) ⊎ (a ≡ b → ⊥)
cases_it a b = by (bytes_eq a b) refl
  where
    by : (b' : Bool) → bytes_eq a b ≡ b' → (a ≡ b) ⊎ (a ≡ b → ⊥)
    by true e = inl (same_bytes a b e)
    by false e = inr (λ same. false≢true (sym e ∙ bytes_same a b same))

-- one is gone from both
pub indexed_less : (subject : List ℕ) (t : ℕ) (es fs : Requests) (index index' : List (List ℕ × ℕ)) → Indexed es index → look t es ≡ Some subject
    → UpdatedAt t None es fs → Finds (λ other. found_but subject other index) index' → Indexed fs index'
indexed_less subject t es fs index index' indexed there updated finds = record { leads = leads; found = found }
  where
    leads : (other : List ℕ) (k : ℕ) → find other index' ≡ Some k → look k fs ≡ Some other
    leads other k is = by (cases_it subject other)
      where
        by : (subject ≡ other) ⊎ (subject ≡ other → ⊥) → look k fs ≡ Some other
        by (inl same) =
            absurd (none-some k (sym (finds other ∙ ap (λ b. cond b None (find other index)) (it_same subject other same)) ∙ is))
        by (inr apart) =
            let before : find other index ≡ Some k = sym (finds other ∙ ap (λ b. cond b None (find other index)) (it_apart subject other apart)) ∙ is in
            let here = indexed.leads other k before in
            updated k ∙ (ap (λ b. cond b None (look k es)) (at_apart t k (λ same. apart (same_Some subject other (sym there ∙ (ap (λ n. look n es) same ∙ here))))) ∙ here)

    found : (k : ℕ) (other : List ℕ) → look k fs ≡ Some other → find other index' ≡ Some k
    found k other is = by (t == k) refl
      where
        by : (b : Bool) → (t == k) ≡ b → find other index' ≡ Some k
        by true same =
            absurd (none-some other (sym (updated k ∙ ap (λ b. cond b None (look k es)) (at_is t k ∙ same)) ∙ is))
        by false other_one =
            let before : look k es ≡ Some other = sym (updated k ∙ ap (λ b. cond b None (look k es)) (at_is t k ∙ other_one)) ∙ is in
            let here = indexed.found k other before in
            finds other ∙ (ap (λ b. cond b None (find other index)) (it_apart subject other (λ same. eqb-false t k other_one (same_Some t k (sym (indexed.found t subject there) ∙ (ap (λ s. find s index) same ∙ here))))) ∙ here)

-- those of a ticket, if one waits for it
pub indexed_without : (o : Option (List ℕ)) (t : ℕ) (es fs : Requests) (index index' : List (List ℕ × ℕ)) → Indexed es index → o ≡ look t es
    → UpdatedAt t None es fs → Finds (λ other. found_but_if o other index) index' → Indexed fs index'
indexed_without (Some subject) t es fs index index' indexed there updated finds =
    indexed_less subject t es fs index index' indexed (sym there) updated finds
indexed_without None t es fs index index' indexed there updated finds = record {
  leads = λ other k is. let here = indexed.leads other k (sym (finds other) ∙ is) in same k ∙ here;
  found = λ k other is. finds other ∙ indexed.found k other (sym (same k) ∙ is);
}
  where
    same : (k : ℕ) → look k fs ≡ look k es
    same k = by (t == k) refl
      where
        by : (b : Bool) → (t == k) ≡ b → look k fs ≡ look k es
        by true e = updated k ∙ (ap (λ b. cond b None (look k es)) (at_is t k ∙ e) ∙ (there ∙ ap (λ n. look n es) (eqb-true t k e)))
        by false e = updated k ∙ ap (λ b. cond b None (look k es)) (at_is t k ∙ e)

-- those of a subject, if one waits for it
pub indexed_gone : (subject : List ℕ) (o : Option ℕ) (es fs : Requests) (index index' : List (List ℕ × ℕ)) → Indexed es index → o ≡ find subject index
    → ((k : ℕ) → look k fs ≡ gone_at o k (look k es)) → Finds (λ other. found_but subject other index) index' → Indexed fs index'
indexed_gone subject (Some t) es fs index index' indexed there updated finds =
    indexed_less subject t es fs index index' indexed (indexed.leads subject t (sym there)) updated finds
indexed_gone subject None es fs index index' indexed there updated finds = record {
  leads = λ other k is. updated k ∙ indexed.leads other k (sym (same other) ∙ is);
  found = λ k other is. same other ∙ indexed.found k other (sym (updated k) ∙ is);
}
  where
    same : (other : List ℕ) → find other index' ≡ find other index
    same other = by (cases_it subject other)
      where
        by : (subject ≡ other) ⊎ (subject ≡ other → ⊥) → find other index' ≡ find other index
        by (inl e) =
            finds other ∙ (ap (λ b. cond b None (find other index)) (it_same subject other e) ∙ (there ∙ ap (λ s. find s index) e))
        by (inr apart) = finds other ∙ ap (λ b. cond b None (find other index)) (it_apart subject other apart)

-- ---- one more

pub under_of : (n t : ℕ) (es : Requests) → n < t → AllBelow n es → AllUnder t es
under_of n t [] less below = tt
under_of n t (e ∷ es) less below = (omega (arith, less, below.0), under_of n t es less below.1)

look_under : (t k : ℕ) (v : List ℕ) (es : Requests) → AllUnder t es → look k es ≡ Some v → k < t
look_under t k v [] under is = absurd (none-some v is)
look_under t k v (e ∷ es) under is = by (k == e.0) refl (look_under t k v es under.1)
  where
    by : (b : Bool) → (k == e.0) ≡ b → (look k es ≡ Some v → k < t) → k < t
    by true same rest = let here = eqb-true k e.0 same in omega (arith, here, under.0)
    by false other rest = rest (sym (ap (λ b. cond b (Some e.1) (look k es)) (at_is k e.0 ∙ other)) ∙ is)

pub none_under : (t : ℕ) (es : Requests) → AllUnder t es → look t es ≡ None
none_under t [] under = refl
none_under t (e ∷ es) under =
    ap (λ b. cond b (Some e.1) (look t es)) (at_apart t e.0 (λ same. omega (arith, same, under.0))) ∙ none_under t es under.1

pub inserted : (t : ℕ) (v : List ℕ) (es : Requests) → AllUnder t es → insert_entry nat_cmp es t v ≡ es ++ (t, v) ∷ []
inserted t v [] under = refl
inserted t v (e ∷ es) under =
    ap (λ r. match_ordering r ((t, v) ∷ e ∷ es) ((e.0, v) ∷ es) (e ∷ insert_entry nat_cmp es t v)) (sym (nat_cmp_is t e.0 Greater (omega (arith, under.0))))
    ∙ ap (λ xs. e ∷ xs) (inserted t v es under.1)

-- the last is taken back
pub last_but : (t : ℕ) (v : List ℕ) (es : Requests) → AllUnder t es → requests_but t (es ++ (t, v) ∷ []) ≡ es
last_but t v [] under = ap (λ b. cond b [] ((t, v) ∷ [])) (eq-eqb t t refl)
last_but t v (e ∷ es) under =
    ap (λ b. cond b (es ++ (t, v) ∷ []) (e ∷ requests_but t (es ++ (t, v) ∷ []))) (ne_eqb t e.0 (λ same. omega (arith, same, under.0)))
    ∙ ap (λ xs. e ∷ xs) (last_but t v es under.1)

-- another than the last is taken away
but_last : (d t : ℕ) (v : List ℕ) (es : Requests) → (d ≡ t → ⊥) → requests_but d (es ++ (t, v) ∷ []) ≡ requests_but d es ++ (t, v) ∷ []
but_last d t v [] apart = ap (λ b. cond b [] ((t, v) ∷ [])) (ne_eqb d t apart)
but_last d t v (e ∷ es) apart = by (d == e.0) (but_last d t v es apart)
  where
    by : (b : Bool) → requests_but d (es ++ (t, v) ∷ []) ≡ requests_but d es ++ (t, v) ∷ []
        → cond b (es ++ (t, v) ∷ []) (e ∷ requests_but d (es ++ (t, v) ∷ [])) ≡ cond b es (e ∷ requests_but d es) ++ (t, v) ∷ []
    by true rest = refl
    by false rest = ap (λ xs. e ∷ xs) rest

-- one more waits, and the one that waited for the same subject does no more
pub asked_is : (t : ℕ) (subject : List ℕ) (es mid fs : Requests) (index : List (List ℕ × ℕ)) → AllUnder t es → Indexed es index → IsStrictlySortedBy nat_cmp (keys es)
    → mid ≡ insert_entry nat_cmp es t subject → fs ≡ but_if (find subject index) mid → fs ≡ requests_elsewhere subject es ++ (t, subject) ∷ []
asked_is t subject es mid fs index under indexed sorted is gone =
    gone ∙ (ap (but_if (find subject index)) (is ∙ inserted t subject es under) ∙ (by (find subject index) refl ∙ ap (λ xs. xs ++ (t, subject) ∷ []) (found_is subject es index indexed sorted).1))
  where
    by : (o : Option ℕ) → find subject index ≡ o → but_if o (es ++ (t, subject) ∷ []) ≡ but_if o es ++ (t, subject) ∷ []
    by None is_none = refl
    by (Some d) is_some_d =
        let less = look_under t d subject es under (indexed.leads subject d is_some_d) in
        but_last d t subject es (λ same. omega (arith, same, less))

pub indexed_more : (t : ℕ) (subject : List ℕ) (es mid fs : Requests) (index index' : List (List ℕ × ℕ)) → AllUnder t es → Indexed es index
    → UpdatedAt t (Some subject) es mid → ((k : ℕ) → look k fs ≡ gone_at (find subject index) k (look k mid))
    → Finds (λ other. cond (is_it subject other) (Some t) (find other index)) index' → Indexed fs index'
indexed_more t subject es mid fs index index' under indexed updated gone finds = record { leads = leads; found = found }
  where
    low : (d : ℕ) → find subject index ≡ Some d → d < t
    low d is = look_under t d subject es under (indexed.leads subject d is)

    -- what is taken away is neither the last nor of another subject
    still : (o : Option ℕ) → find subject index ≡ o → (k : ℕ) (v : Option (List ℕ)) → ((d : ℕ) → o ≡ Some d → d ≡ k → ⊥) → gone_at o k v ≡ v
    still None is k v apart = refl
    still (Some d) is k v apart = ap (λ b. cond b None v) (at_apart d k (apart d refl))

    leads : (other : List ℕ) (k : ℕ) → find other index' ≡ Some k → look k fs ≡ Some other
    leads other k is = by (cases_it subject other)
      where
        by : (subject ≡ other) ⊎ (subject ≡ other → ⊥) → look k fs ≡ Some other
        by (inl same) =
            let last : t ≡ k = same_Some t k (sym (finds other ∙ ap (λ b. cond b (Some t) (find other index)) (it_same subject other same)) ∙ is) in
            gone k ∙ (still (find subject index) refl k (look k mid) (λ d found_d same_d. let less = low d found_d in omega (arith, less, last, same_d))
            ∙ (updated k ∙ (ap (λ b. cond b (Some subject) (look k es)) (at_same t k last) ∙ ap (λ s. Some s) same)))
        by (inr apart) =
            let before : find other index ≡ Some k = sym (finds other ∙ ap (λ b. cond b (Some t) (find other index)) (it_apart subject other apart)) ∙ is in
            let here = indexed.leads other k before in
            let less = look_under t k other es under here in
            gone k ∙ (still (find subject index) refl k (look k mid) (λ d found_d same_d. apart (same_Some subject other (sym (indexed.leads subject d found_d) ∙ (ap (λ n. look n es) same_d ∙ here))))
            ∙ (updated k ∙ (ap (λ b. cond b (Some subject) (look k es)) (at_apart t k (λ same. omega (arith, less, same))) ∙ here)))

    found : (k : ℕ) (other : List ℕ) → look k fs ≡ Some other → find other index' ≡ Some k
    found k other is = by_last (t == k) refl
      where
        kept : look k mid ≡ Some other
        kept = by_gone (find subject index) refl
          where
            by_gone : (o : Option ℕ) → find subject index ≡ o → look k mid ≡ Some other
            by_gone None none = sym (gone k ∙ ap (λ o. gone_at o k (look k mid)) none) ∙ is
            by_gone (Some d) some = by_at (is_at (nat_cmp d) k) refl
              where
                by_at : (b : Bool) → is_at (nat_cmp d) k ≡ b → look k mid ≡ Some other
                by_at true at = absurd (none-some other (sym (gone k ∙ (ap (λ o. gone_at o k (look k mid)) some ∙ ap (λ b. cond b None (look k mid)) at)) ∙ is))
                by_at false at = sym (gone k ∙ (ap (λ o. gone_at o k (look k mid)) some ∙ ap (λ b. cond b None (look k mid)) at)) ∙ is

        by_last : (b : Bool) → (t == k) ≡ b → find other index' ≡ Some k
        by_last true same =
            let last = eqb-true t k same in
            let this : subject ≡ other = same_Some subject other (sym (updated k ∙ ap (λ b. cond b (Some subject) (look k es)) (at_same t k last)) ∙ kept) in
            finds other ∙ (ap (λ b. cond b (Some t) (find other index)) (it_same subject other this) ∙ ap (λ n. Some n) last)
        by_last false other_one =
            let before : look k es ≡ Some other = sym (updated k ∙ ap (λ b. cond b (Some subject) (look k es)) (at_is t k ∙ other_one)) ∙ kept in
            finds other ∙ (ap (λ b. cond b (Some t) (find other index)) (it_apart subject other (λ same. here_gone (same_subject same before))) ∙ indexed.found k other before)
          where
            same_subject : subject ≡ other → look k es ≡ Some other → find subject index ≡ Some k
            same_subject same before = ap (λ s. find s index) same ∙ indexed.found k other before

            here_gone : find subject index ≡ Some k → ⊥
            here_gone at_k = none-some other (sym (gone k ∙ (ap (λ o. gone_at o k (look k mid)) at_k ∙ ap (λ b. cond b None (look k mid)) (at_same k k refl))) ∙ is)

-- ---- the tickets that are left

pub below_less : (n t : ℕ) (es : Requests) → AllBelow n es → AllBelow n (requests_but t es)
below_less n t [] below = tt
below_less n t (e ∷ es) below = by (t == e.0) (below_less n t es below.1)
  where
    by : (b : Bool) → AllBelow n (requests_but t es) → AllBelow n (cond b es (e ∷ requests_but t es))
    by true rest = below.1
    by false rest = (below.0, rest)

pub below_elsewhere : (n : ℕ) (subject : List ℕ) (es : Requests) → AllBelow n es → AllBelow n (requests_elsewhere subject es)
below_elsewhere n subject [] below = tt
below_elsewhere n subject (e ∷ es) below = by (bytes_eq subject e.1) (below_elsewhere n subject es below.1)
  where
    by : (b : Bool) → AllBelow n (requests_elsewhere subject es) → AllBelow n (cond b es (e ∷ requests_elsewhere subject es))
    by true rest = below.1
    by false rest = (below.0, rest)

pub below_more : (n m t : ℕ) (v : List ℕ) (es : Requests) → n ≤ m → t ≤ m → AllBelow n es → AllBelow m (es ++ (t, v) ∷ [])
below_more n m t v [] fits last below = (last, tt)
below_more n m t v (e ∷ es) fits last below = (omega (arith, fits, below.0), below_more n m t v es fits last below.1)

pub below_up : (n m : ℕ) (es : Requests) → n ≤ m → AllBelow n es → AllBelow m es
below_up n m [] fits below = tt
below_up n m (e ∷ es) fits below = (omega (arith, fits, below.0), below_up n m es fits below.1)

-- ---- how many are left

pub fewer_elsewhere : (subject : List ℕ) (es : Requests) → length (requests_elsewhere subject es) + one_if (request_at subject es) ≡ length es
fewer_elsewhere subject [] = refl
fewer_elsewhere subject (e ∷ es) = by (bytes_eq subject e.1) (fewer_elsewhere subject es)
  where
    by : (b : Bool) → length (requests_elsewhere subject es) + one_if (request_at subject es) ≡ length es
        → length (cond b es (e ∷ requests_elsewhere subject es)) + one_if (cond b (Some e.0) (request_at subject es)) ≡ suc (length es)
    by true rest = omega arith
    by false rest = omega (arith, rest)

pub fewer_but : (t : ℕ) (es : Requests) → length (requests_but t es) + bit (waits_for_reply t es) ≡ length es
fewer_but t [] = refl
fewer_but t (e ∷ es) = by (t == e.0) (fewer_but t es)
  where
    by : (b : Bool) → length (requests_but t es) + bit (waits_for_reply t es) ≡ length es
        → length (cond b es (e ∷ requests_but t es)) + bit (b || waits_for_reply t es) ≡ suc (length es)
    by true rest = omega arith
    by false rest = omega (arith, rest)

pub first_asked : (asking : Requests) (t : ℕ) → Some t ≡ option_map ticket_in (first asking) → (map ticket_in asking ≡ t ∷ map ticket_in (drop 1 asking)) × (length asking ≡ suc (length (drop 1 asking)))
first_asked [] t is = absurd (none-some t (sym is))
first_asked (e ∷ es) t is = (ap (λ n. n ∷ map ticket_in es) (sym (same_Some t e.0 is)), refl)

pub none_asked : (asking : Requests) → None ≡ option_map ticket_in (first asking) → asking ≡ []
none_asked [] is = refl
none_asked (e ∷ es) is = absurd (none-some e.0 is)
