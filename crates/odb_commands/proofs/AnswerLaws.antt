-- The answer of a command whose calls are legal.
use Rattle.std.proofs.Common.{◌≡◌, ◌≢◌, ℕ, Bool, true, false, ◌||◌, List, [], ◌∷◌, Option, Some, None, Result, Ok, Err, refl, ap, sym, subst, ◌∙◌, eq-eqb}
use Rattle.std.specs.Prelude.{◌==◌, if◌then◌else◌}
use Rattle.std.specs.Option.{unwrap_or}
use Rattle.daq_types.specs.Callers.{entries_by}
use Rattle.daq_types.specs.declared.types.Tid.{Tid}
use Rattle.daq_types.specs.declared.types.Tid.TheVariants as tid
use Rattle.odb_value.specs.declared.path_refusals.PathRefusal.{PathRefusal}
use Rattle.odb_value.specs.PathText.{path_reply}
use Rattle.odb_value.specs.declared.items.Item.{Item}
use Rattle.odb_value.specs.Items.{tid_of}
use Rattle.odb_value.specs.Values.{HeldValue}
use Rattle.odb_tree.specs.declared.children.Child.{Child}
use Rattle.odb_tree.specs.declared.entry.DatabaseEntry.{DatabaseEntry}
use Rattle.odb_tree.specs.declared.entry.DatabaseEntry.TheVariants as call
use Rattle.odb_tree.specs.declared.refusals.OdbRefusal.{OdbRefusal}
use Rattle.odb_tree.specs.declared.rows.NewKey.{NewKey}
use Rattle.odb_tree.specs.declared.rows.NewKey.TheVariants.{Dir, Keys, Link}
use Rattle.odb_tree.specs.Rows.{Rows}
use Rattle.odb_tree.specs.Links.{meets_link}
use Rattle.odb_tree.specs.Calls.{GivesTaking, GivesIf, GivesItem, makes_link, delete_reply, path_with, rows_after}
use Rattle.odb_commands.specs.LedReplies.{create_led, set_led, get_led, find_led, list_led}
use Rattle.odb_tree.specs.Histories.{IsLegalRows, IsLegalCall}
use Rattle.odb_watch.specs.DatabasePorts.{IsSettled, calls_by}
use Rattle.odb_script.specs.declared.commands.RowCommand.{RowCommand}
use Rattle.odb_script.specs.declared.commands.RowCommand.TheVariants as command
use Rattle.odb_commands.specs.declared.replies.CommandRefusal.{CommandRefusal}
use Rattle.odb_commands.specs.declared.replies.CommandRefusal.TheVariants.{Protected}
use Rattle.odb_commands.specs.declared.replies.CommandReply.{CommandReply}
use Rattle.odb_commands.specs.declared.replies.CommandReply.TheVariants.{Key}
use Rattle.odb_commands.specs.Answers.{CommandAnswer, refused, at_path, done_or, listed_or, create_at, link_at, item_for, set_item, set_in, set_at, key_found, shown_value, get_in, get_at, list_at, is_protected, removed, remove_at, answer_of}
use Rattle.odb_commands.specs.CommandCalls.{AtPath, CreatesKey, LinksTo, SetsItem, SetsIn, Sets, NamesFound, Shows, GetsIn, Gets, Lists, RemovesIf, RemovesKey, Performs, IsAnswered, OthersLeave}

-- A legal reply is that of the rows, where memory was not wanting.

given_is : {X : Type 0} (early : Bool) (given reply : Result X OdbRefusal) → GivesTaking early given reply → IsSettled given → given ≡ reply
given_is early (Ok x) reply gives settled = sym gives
given_is true (Err why) reply gives settled = sym (gives settled)
given_is false (Err why) reply gives settled = sym (gives.0 settled)

given_if : {X : Type 0} (met : Bool) (given reply : Result X OdbRefusal) → GivesIf met given reply → IsSettled given → given ≡ reply
given_if true given reply gives settled = given_is true given reply gives settled
given_if false given reply gives settled = gives

item_given : (met : Bool) (type : Tid) (given reply : Result ℕ OdbRefusal) → GivesItem met type given reply → IsSettled given → given ≡ reply
item_given met tid.Text given reply gives settled = given_is met given reply gives settled
item_given true _ given reply gives settled = given_is true given reply gives settled
item_given false _ given reply gives settled = gives

-- the same calls are legal
legal_as : (s : Rows) (calls more : List DatabaseEntry) → calls ≡ more → IsLegalRows s (calls_by 0 calls) → IsLegalRows s (calls_by 0 more)
legal_as s calls more is legal = subst (λ (es : List DatabaseEntry). IsLegalRows s (calls_by 0 es)) is legal

-- Each command.

create_answered : (s : Rows) (kind : NewKey) (p : List (List ℕ)) (calls : List DatabaseEntry) (reply : CommandReply) → IsLegalRows s (calls_by 0 calls) → CreatesKey kind p calls reply → IsAnswered (create_at s kind p) calls reply
create_answered s kind p calls reply legal does =
    let here = legal_as s calls (call.Create p kind does.0 ∷ []) does.1 legal in
    let same : does.0 ≡ create_led s p kind = given_is (makes_link kind || meets_link s p false) does.0 (create_led s p kind) here.0.reply does.2 in
    (does.1 ∙ ap (λ (got : Result ℕ OdbRefusal). call.Create p kind got ∷ []) same, does.3 ∙ ap done_or same)

item_answered : (s : Rows) (p : List (List ℕ)) (index : ℕ) (item : Result Item CommandRefusal) (calls : List DatabaseEntry) (reply : CommandReply) → IsLegalRows s (calls_by 0 calls) → SetsItem p index item calls reply
    → IsAnswered (set_item s p index item) calls reply
item_answered s p index (Err why) calls reply legal does = does
item_answered s p index (Ok item) calls reply legal does =
    let here = legal_as s calls (call.Set p index item does.0 ∷ []) does.1 legal in
    let same : does.0 ≡ set_led s p index item = item_given (meets_link s p true) (tid_of item) does.0 (set_led s p index item) here.0.reply does.2 in
    (does.1 ∙ ap (λ (got : Result ℕ OdbRefusal). call.Set p index item got ∷ []) same, does.3 ∙ ap done_or same)

set_in_answered : (s : Rows) (p : List (List ℕ)) (index : ℕ) (text : List ℕ) (got : Result HeldValue OdbRefusal) (calls : List DatabaseEntry) (reply : CommandReply) → IsLegalRows s (calls_by 0 calls) → SetsIn p index text got calls reply
    → IsAnswered (set_in s p index text got) calls reply
set_in_answered s p index text (Err why) calls reply legal does = does
set_in_answered s p index text (Ok v) calls reply legal does = item_answered s p index (item_for v index text) calls reply legal does

set_answered : (s : Rows) (index : ℕ) (text : List ℕ) (p : List (List ℕ)) (calls : List DatabaseEntry) (reply : CommandReply) → IsLegalRows s (calls_by 0 calls) → Sets index text p calls reply → IsAnswered (set_at s index text p) calls reply
set_answered s index text p calls reply legal does =
    let here = legal_as s calls (call.Get p does.0 ∷ does.1) does.2 legal in
    let same : does.0 ≡ get_led s p = given_is (meets_link s p true) does.0 (get_led s p) here.0.reply does.3 in
    let rest : IsAnswered (set_in s p index text (get_led s p)) does.1 reply =
    subst (λ (got : Result HeldValue OdbRefusal). IsAnswered (set_in s p index text got) does.1 reply) same (set_in_answered s p index text does.0 does.1 reply here.1 does.4) in (
      does.2
          ∙ (ap (λ (got : Result HeldValue OdbRefusal). call.Get p got ∷ does.1) same
          ∙ ap (λ (more : List DatabaseEntry). call.Get p (get_led s p) ∷ more) rest.0),
      rest.1,
    )

found_answered : (s : Rows) (v : HeldValue) (found : Result ℕ OdbRefusal) (calls : List DatabaseEntry) (reply : CommandReply) → IsLegalRows s (calls_by 0 calls) → NamesFound v found calls reply → IsAnswered (key_found s v found) calls reply
found_answered s v (Err why) calls reply legal does = does
found_answered s v (Ok row) calls reply legal does =
    let here = legal_as s calls (call.PathOf row (Ok does.0) ∷ []) does.1 legal in
    let same : does.0 ≡ path_with s.rows row = sym here.0.reply in (
      does.1 ∙ ap (λ (path : Option (List (List ℕ))). call.PathOf row (Ok path) ∷ []) same,
      does.2 ∙ ap (λ (path : Option (List (List ℕ))). Key (unwrap_or path []) v) same,
    )

shown_answered : (s : Rows) (p : List (List ℕ)) (index : Option ℕ) (v : HeldValue) (calls : List DatabaseEntry) (reply : CommandReply) → IsLegalRows s (calls_by 0 calls) → Shows p index v calls reply → IsAnswered (shown_value s p index v) calls reply
shown_answered s p None v calls reply legal does =
    let here = legal_as s calls (call.Find p does.0 ∷ does.1) does.2 legal in
    let same : does.0 ≡ find_led s p = given_if (meets_link s p true) does.0 (find_led s p) here.0.reply does.3 in
    let rest : IsAnswered (key_found s v (find_led s p)) does.1 reply =
    subst (λ (found : Result ℕ OdbRefusal). IsAnswered (key_found s v found) does.1 reply) same (found_answered s v does.0 does.1 reply here.1 does.4) in (
      does.2
          ∙ (ap (λ (found : Result ℕ OdbRefusal). call.Find p found ∷ does.1) same
          ∙ ap (λ (more : List DatabaseEntry). call.Find p (find_led s p) ∷ more) rest.0),
      rest.1,
    )
shown_answered s p (Some index) v calls reply legal does = does

get_in_answered : (s : Rows) (p : List (List ℕ)) (index : Option ℕ) (got : Result HeldValue OdbRefusal) (calls : List DatabaseEntry) (reply : CommandReply) → IsLegalRows s (calls_by 0 calls) → GetsIn p index got calls reply
    → IsAnswered (get_in s p index got) calls reply
get_in_answered s p index (Err why) calls reply legal does = does
get_in_answered s p index (Ok v) calls reply legal does = shown_answered s p index v calls reply legal does

get_answered : (s : Rows) (index : Option ℕ) (p : List (List ℕ)) (calls : List DatabaseEntry) (reply : CommandReply) → IsLegalRows s (calls_by 0 calls) → Gets index p calls reply → IsAnswered (get_at s index p) calls reply
get_answered s index p calls reply legal does =
    let here = legal_as s calls (call.Get p does.0 ∷ does.1) does.2 legal in
    let same : does.0 ≡ get_led s p = given_is (meets_link s p true) does.0 (get_led s p) here.0.reply does.3 in
    let rest : IsAnswered (get_in s p index (get_led s p)) does.1 reply =
    subst (λ (got : Result HeldValue OdbRefusal). IsAnswered (get_in s p index got) does.1 reply) same (get_in_answered s p index does.0 does.1 reply here.1 does.4) in (
      does.2
          ∙ (ap (λ (got : Result HeldValue OdbRefusal). call.Get p got ∷ does.1) same
          ∙ ap (λ (more : List DatabaseEntry). call.Get p (get_led s p) ∷ more) rest.0),
      rest.1,
    )

list_answered : (s : Rows) (p : List (List ℕ)) (calls : List DatabaseEntry) (reply : CommandReply) → IsLegalRows s (calls_by 0 calls) → Lists p calls reply → IsAnswered (list_at s p) calls reply
list_answered s p calls reply legal does =
    let here = legal_as s calls (call.ListDir p does.0 ∷ []) does.1 legal in
    let same : does.0 ≡ list_led s p = given_is (meets_link s p true) does.0 (list_led s p) here.0.reply does.2 in
    (does.1 ∙ ap (λ (got : Result (List Child) OdbRefusal). call.ListDir p got ∷ []) same, does.3 ∙ ap listed_or same)

remove_answered : (s : Rows) (p : List (List ℕ)) (b : Bool) (calls : List DatabaseEntry) (reply : CommandReply) → IsLegalRows s (calls_by 0 calls) → RemovesIf b p calls reply
    → IsAnswered (if b then refused Protected else removed s p) calls reply
remove_answered s p true calls reply legal does = does
remove_answered s p false calls reply legal does =
    let here = legal_as s calls (call.Delete p does.0 ∷ []) does.1 legal in
    let same : does.0 ≡ delete_reply s p = here.0.reply in
    (does.1 ∙ ap (λ (got : Result ℕ OdbRefusal). call.Delete p got ∷ []) same, does.3 ∙ ap done_or same)

path_answered : (read : Result (List (List ℕ)) PathRefusal) (answer : List (List ℕ) → CommandAnswer) (Then : List (List ℕ) → List DatabaseEntry → CommandReply → Type 0) (calls : List DatabaseEntry) (reply : CommandReply)
    → ((p : List (List ℕ)) → Then p calls reply → IsAnswered (answer p) calls reply) → AtPath read Then calls reply → IsAnswered (at_path read answer) calls reply
path_answered (Err why) answer Then calls reply each does = does
path_answered (Ok p) answer Then calls reply each does = each p does

link_answered : (s : Rows) (target : List ℕ) (p : List (List ℕ)) (calls : List DatabaseEntry) (reply : CommandReply) → IsLegalRows s (calls_by 0 calls) → LinksTo target p calls reply → IsAnswered (link_at s target p) calls reply
link_answered s target p calls reply legal does =
    path_answered (path_reply target) (λ t. create_at s (Link t) p) (λ t. CreatesKey (Link t) p) calls reply (λ t it. create_answered s (Link t) p calls reply legal it) does

pub performs_answered : (s : Rows) (c : RowCommand) (calls : List DatabaseEntry) (reply : CommandReply) → Performs c calls reply → IsLegalRows s (calls_by 0 calls) → IsAnswered (answer_of s c) calls reply
performs_answered s (command.Create type path len) calls reply does legal =
    path_answered (path_reply path) (create_at s (Keys type len)) (CreatesKey (Keys type len)) calls reply (λ p it. create_answered s (Keys type len) p calls reply legal it) does
performs_answered s (command.CreateDir path) calls reply does legal = path_answered (path_reply path) (create_at s Dir) (CreatesKey Dir) calls reply (λ p it. create_answered s Dir p calls reply legal it) does
performs_answered s (command.Link path target) calls reply does legal = path_answered (path_reply path) (link_at s target) (LinksTo target) calls reply (λ p it. link_answered s target p calls reply legal it) does
performs_answered s (command.Set path index value) calls reply does legal = path_answered (path_reply path) (set_at s index value) (Sets index value) calls reply (λ p it. set_answered s index value p calls reply legal it) does
performs_answered s (command.Get path index) calls reply does legal = path_answered (path_reply path) (get_at s index) (Gets index) calls reply (λ p it. get_answered s index p calls reply legal it) does
performs_answered s (command.List path) calls reply does legal = path_answered (path_reply path) (list_at s) Lists calls reply (λ p it. list_answered s p calls reply legal it) does
performs_answered s (command.Remove path) calls reply does legal = path_answered (path_reply path) (remove_at s) RemovesKey calls reply (λ p it. remove_answered s p (is_protected p) calls reply legal it) does

-- Calls of others that leave the rows can be left out.

own_cons : (b : Bool) (e : ℕ × DatabaseEntry) (h : List (ℕ × DatabaseEntry)) → (e.0 == 0) ≡ b → entries_by 0 (e ∷ h) ≡ (if b then e.1 ∷ entries_by 0 h else entries_by 0 h)
own_cons true e h is = rw is refl
own_cons false e h is = rw is refl

not_main : (caller : ℕ) → (caller == 0) ≡ false → caller ≢ 0
not_main caller is same = let clash : true ≡ false = sym (eq-eqb caller 0 same) ∙ is in cc

own_legal_by : (b : Bool) (s : Rows) (e : ℕ × DatabaseEntry) (own : List DatabaseEntry) → (e.0 == 0) ≡ b → IsLegalCall s e.0 e.1 → (e.0 ≢ 0 → rows_after s e.1 ≡ s) → IsLegalRows (rows_after s e.1) (calls_by 0 own)
    → IsLegalRows s (calls_by 0 (if b then e.1 ∷ own else own))
own_legal_by true s e own is here leaves rest = (record { may = λ shapes. refl; sound = here.sound; reply = here.reply }, rest)
own_legal_by false s e own is here leaves rest = subst (λ (r : Rows). IsLegalRows r (calls_by 0 own)) (leaves (not_main e.0 is)) rest

own_legal : (s : Rows) (h : List (ℕ × DatabaseEntry)) → IsLegalRows s h → OthersLeave s h → IsLegalRows s (calls_by 0 (entries_by 0 h))
own_legal s [] legal leave = tt
own_legal s (e ∷ h) legal leave =
    subst (λ (es : List DatabaseEntry). IsLegalRows s (calls_by 0 es)) (sym (own_cons (e.0 == 0) e h refl))
    (own_legal_by (e.0 == 0) s e (entries_by 0 h) refl legal.0 leave.0 (own_legal (rows_after s e.1) h legal.1 leave.1))

pub performs_among : (s : Rows) (h : List (ℕ × DatabaseEntry)) (c : RowCommand) (reply : CommandReply) → Performs c (entries_by 0 h) reply → IsLegalRows s h → OthersLeave s h → IsAnswered (answer_of s c) (entries_by 0 h) reply
performs_among s h c reply does legal leave = performs_answered s c (entries_by 0 h) reply does (own_legal s h legal leave)
