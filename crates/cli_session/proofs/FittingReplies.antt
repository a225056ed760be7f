-- The values of a reply fit their types, as its fields do.
use Rattle.std.proofs.Common.{◌≡◌, Bool, true, false, cond, ◌&&◌, not, List, ◌++◌, Option, None, Some, refl}
use Rattle.std.specs.Ordering.{nat_cmp}
use Rattle.std.specs.FinSet.{FinSet}
use Rattle.pvd_codec.specs.Written.{CanEach}
use Rattle.pvd_type.specs.Tree.{Tree}
use Rattle.pva_messages.specs.Fields.{Field, Valued, PartData}
use Rattle.pva_messages.specs.Replies as replies
use Rattle.pva_messages.specs.Replies.{Reply, reply_fields, type_field, part_field, update_field, valued_field}
use Rattle.pva_messages.specs.Subcommands.{begins, carries}
use Rattle.pva_messages.specs.Written.{FitsField}
use Rattle.cli_session.specs.Fitting.{part_fits, update_fits, valued_fits, reply_fits}

abbrev Fit : List Field → Type 0
Fit fields = CanEach FitsField fields

part_fit : (p : Option PartData) → Fit (part_field p) → part_fits p ≡ true
part_fit None h = refl
part_fit (Some p) h = h.0.0

one_type : (b : Bool) (t : Option Tree) (p : Option PartData) → Fit (type_field b t ++ part_field p) → part_fits p ≡ true
one_type true t p h = part_fit p h.1
one_type false t p h = part_fit p h

two_types : (b : Bool) (t u : Option Tree) (p : Option PartData) → Fit (type_field b t ++ type_field b u ++ part_field p) → part_fits p ≡ true
two_types true t u p h = part_fit p h.1.1
two_types false t u p h = part_fit p h

update_fit : (u : Option (PartData × FinSet nat_cmp)) → Fit (update_field u) → update_fits u ≡ true
update_fit None h = refl
update_fit (Some u) h = h.0.0

-- a call's result stands in its reply, where it has one
valued_fit : (b : Bool) (v : Valued) → Fit (valued_field b v) → cond b (valued_fits v) true ≡ true
valued_fit true None h = refl
valued_fit true (Some v) h = h.0
valued_fit false v h = refl

pub reply_fit : (m : Reply) → Fit (reply_fields m) → reply_fits m ≡ true
reply_fit (replies.validation buffer registry methods) h = refl
reply_fit (replies.echo xs) h = refl
reply_fit (replies.created cid sid s) h = refl
reply_fit (replies.channel_destroyed sid cid) h = refl
reply_fit (replies.validated s) h = refl
reply_fit (replies.get req sub s t p) h = one_type (carries s && begins sub) t p h.1.1.1
reply_fit (replies.put req sub s t p) h = one_type (carries s && begins sub) t p h.1.1.1
reply_fit (replies.put_get req sub s t u p) h = two_types (carries s && begins sub) t u p h.1.1.1
reply_fit (replies.monitor_begun req sub s t) h = refl
reply_fit (replies.monitor_update req sub u) h = update_fit u h.1.1
reply_fit (replies.monitor_end req sub s) h = refl
reply_fit (replies.get_field req s t) h = refl
reply_fit (replies.message req kind t) h = refl
reply_fit (replies.rpc req sub s v) h = valued_fit (carries s && not (begins sub)) v h.1.1.1
reply_fit (replies.skipped c) h = refl
