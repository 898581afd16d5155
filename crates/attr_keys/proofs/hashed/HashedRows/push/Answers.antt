use Rattle.std.proofs.Common.{◌≡◌, arith, get_or, inl, length, refl, subst, suc}
use Rattle.std.specs.Prelude.{IfSome}
use Rattle.std.proofs.lemmas.Bool.Decides.{nat_tests}
use Rattle.std.proofs.lemmas.List.{get_or_read_under, length-reverse, length_push}
use Rattle.attr_keys.specs.inner.Buckets.{IsBucketOf}
use Rattle.attr_keys.specs.shared.Meeting.{key_content}
use Rattle.attr_keys.proofs.Hashing.{hashed_more, hashed_put, heads_more}
use Rattle.attr_keys.proofs.hashed.HashedRows.push.Goals as goal

pub returns-in_default-clause-kept : goal.returns-in_default-clause-kept
returns-in_default-clause-kept c = λ key row hashed.
    hashed_more c.args.fold key c.args.self.now _ 0 row c.args.self.now.bounded c.in_ok-push.ensures.items (λ hash. inl refl)
    (λ subject. grind (arith, nat_tests)) hashed

bucket_is : (c : goal.After-note_length) → IsBucketOf c.args.fold (key_content c.args.key) c.args.self.now c.in-Some.bucket
bucket_is c = subst (λ free. IfSome free (IsBucketOf c.args.fold (key_content c.args.key) c.args.self.now)) c.in-Some.is c.in_ok-bucket.ensures.bucket

link_is : (c : goal.After-note_length) → c.index.result.now ≡ get_or c.args.self.now.heads.items c.in-Some.bucket 0
link_is c =
    let heads = c.args.self.now.heads.items in
    get_or_read_under heads c.in-Some.bucket (length heads) c.index.result.now 0 c.index.ensures (bucket_is c).within refl

head_is : (c : goal.After-note_length) → c.len.result ≡ suc (length c.args.self.now.links.items)
head_is c = grind (arith, nat_tests, length_push, c.len.ensures, c.in_ok-push-2.ensures.items)

pub returns-clause-kept : goal.returns-clause-kept
returns-clause-kept c = λ key row hashed.
    hashed_more c.args.fold key c.args.self.now c.note_length.new.self c.index.result.now row c.args.self.now.bounded
    (grind (arith, nat_tests, c.note_length.ensures.links, c.in_ok-push-2.ensures.items))
    (heads_more c.args.self.now c.note_length.new.self c.in-Some.bucket c.index.result.now c.len.result (bucket_is c).within (link_is c) (head_is c)
    (grind (arith, nat_tests, c.note_length.ensures.heads)))
    (λ subject. grind (arith, nat_tests, c.note_length.ensures.longer)) hashed

pub returns-clause-put : goal.returns-clause-put
returns-clause-put c = λ put.
    hashed_put c.args.fold (key_content c.args.key) c.args.self.now c.note_length.new.self c.in-Some.bucket c.len.result (bucket_is c)
    (head_is c) (grind (arith, nat_tests, c.note_length.ensures.heads)) (grind (arith, nat_tests, length-reverse, c.note_length.ensures.noted))
