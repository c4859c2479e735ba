-- What is printed for a reply, for an answer, and for a version that is shown.
use Rattle.std.specs.Prelude.{◌≡◌, ◌≢◌, ℕ, List, ◌++◌, Option, Some, None, true, false, codes, decimal}
use Rattle.std.specs.List.{flat_map}
use Rattle.std.specs.declared.cmp.Ordering.{Ordering}
use Rattle.std.specs.declared.cmp.Ordering.TheVariants.{Less, Equal, Greater}
use Rattle.rpds_core.specs.MapText.{map_text}
use Rattle.rpds_snapshots.specs.SnapshotRefusal.{number_of as snap_number_of}
use Rattle.rpds_snapshots.specs.declared.snapshots.refusal.SnapRefusal.{SnapRefusal}
use Rattle.rpds_snapshots.specs.declared.snapshots.refusal.SnapRefusal.TheVariants.{NoSnapshot}
use Rattle.rpds_snapshots.specs.declared.snapshots.reply.SnapReply.{SnapReply}
use Rattle.rpds_snapshots.specs.declared.snapshots.reply.SnapReply.TheVariants as snap_replies
use Rattle.rpds_table.specs.Answers.{AnswerValue, item, pair, member, count, truth, pairs, members, order, refused}
use Rattle.rpds_table.specs.Refusal.{number_of}
use Rattle.rpds_table.specs.Texts.{text_of}
use Rattle.rpds_hash.specs.declared.identity_build.Identity.{Identity}
use Rattle.rpds_hash.specs.declared.identity_build.IdentityBuild.{IdentityBuild}
use Rattle.rpds_table.specs.declared.table.refusal.Refusal.{Refusal}
use Rattle.rpds_table.specs.declared.table.refusal.Refusal.TheVariants.{NoMemory, NoVersion}
use Rattle.rpds_table.specs.declared.table.reply.Reply.{Reply}
use Rattle.rpds_table.specs.declared.table.reply.Reply.TheVariants as replies
use Rattle.rpds_table.specs.declared.table.version.Version.{Version}
use Rattle.rpds_tree.specs.OrderedMap.{OrderedMap}

abbrev pub text_of_refusal : Refusal → List ℕ
text_of_refusal refusal = codes "refused " ++ decimal (number_of refusal)

-- It isn't the answer of a line to which memory was refused.
abbrev pub HadMemory : List ℕ → Type 0
HadMemory text = text ≢ text_of_refusal NoMemory

abbrev pub text_of_reply : Reply → List ℕ
text_of_reply (replies.Made i) = codes "made " ++ decimal i
text_of_reply (replies.Done true) = codes "done true"
text_of_reply (replies.Done false) = codes "done false"
text_of_reply (replies.Refused refusal) = text_of_refusal refusal

abbrev pub text_of_ordering : Ordering → List ℕ
text_of_ordering Less = codes "less"
text_of_ordering Equal = codes "equal"
text_of_ordering Greater = codes "greater"

-- a pair of a range, after a space
abbrev pub text_of_pair : ℕ × ℕ → List ℕ
text_of_pair p = codes " " ++ (decimal p.0 ++ (codes ":" ++ decimal p.1))

-- a member of a range, after a space
abbrev pub text_of_member : ℕ → List ℕ
text_of_member key = codes " " ++ decimal key

abbrev pub text_of_answer : AnswerValue ℕ ℕ → List ℕ
text_of_answer (item (Some value)) = codes "some " ++ decimal value
text_of_answer (item None) = codes "none"
text_of_answer (pair (Some p)) = codes "some " ++ (decimal p.0 ++ (codes " " ++ decimal p.1))
text_of_answer (pair None) = codes "none"
text_of_answer (member (Some key)) = codes "some " ++ decimal key
text_of_answer (member None) = codes "none"
text_of_answer (count size) = codes "size " ++ decimal size
text_of_answer (truth true) = codes "true"
text_of_answer (truth false) = codes "false"
text_of_answer (pairs ps) = codes "range" ++ flat_map text_of_pair ps
text_of_answer (members keys) = codes "range" ++ flat_map text_of_member keys
text_of_answer (order ordering) = text_of_ordering ordering
text_of_answer (refused refusal) = text_of_refusal refusal

-- a number in the text of a version
abbrev pub text_of_number : ℕ → Option (List ℕ)
text_of_number n = Some (decimal n)

-- The text is that of the version, as it is displayed; where there is none, it is refused.
abbrev pub IsShown : {A : Type 0} → Option (Version ℕ ℕ IdentityBuild A Identity) → List ℕ → Type 0
IsShown None text = text ≡ text_of_refusal NoVersion
IsShown (Some version) text = text_of text_of_number text_of_number version ≡ Some text

abbrev pub text_of_snap_refusal : SnapRefusal → List ℕ
text_of_snap_refusal refusal = codes "refused " ++ decimal (snap_number_of refusal)

abbrev pub text_of_snap_reply : SnapReply → List ℕ
text_of_snap_reply (snap_replies.Done true) = codes "done true"
text_of_snap_reply (snap_replies.Done false) = codes "done false"
text_of_snap_reply (snap_replies.Taken n) = codes "taken " ++ decimal n
text_of_snap_reply (snap_replies.Refused refusal) = text_of_snap_refusal refusal

-- The text is that of the map, as it is displayed; where there is none, it is refused.
abbrev pub IsSnapShown : Option (OrderedMap ℕ ℕ) → List ℕ → Type 0
IsSnapShown None text = text ≡ text_of_snap_refusal NoSnapshot
IsSnapShown (Some map) text = map_text text_of_number text_of_number map.entries ≡ Some text
