-- The five messages: their step is that of their members, so they mean what their members mean.
use Rattle.std.proofs.Common.{◌≡◌, ℕ, List, [], ◌++◌, Option, Some, None, ℤ, refl, ap, ◌∙◌, map}
use Rattle.std.specs.Option.{option_map}
use Rattle.ttrpc_wire.specs.Field.{Field}
use Rattle.ttrpc_wire.specs.Number.{int64_of, int32_of}
use Rattle.ttrpc_wire.specs.Reading.{◌>>=◌, fields_of}
use Rattle.ttrpc_wire.specs.Fold.{folded, read_from}
use Rattle.ttrpc_wire.proofs.Agrees.{bound}
use Rattle.ttrpc_proto.specs.declared.messages.Any.{Any}
use Rattle.ttrpc_proto.specs.declared.messages.KeyValue.{KeyValue}
use Rattle.ttrpc_proto.specs.declared.messages.Request.{Request}
use Rattle.ttrpc_proto.specs.declared.messages.Response.{Response}
use Rattle.ttrpc_proto.specs.declared.messages.Status.{Status}
use Rattle.ttrpc_wire.specs.Codec.Members.{delimited_in, number_in, last_text, last_bytes, last_number, one_more, joined, both}
use Rattle.ttrpc_proto.specs.Messages.{empty_key_value, key_value_step, empty_any, any_step, empty_status, status_step, empty_request, request_step, empty_response, response_step}
use Rattle.ttrpc_proto.specs.Meaning.{delimited_values, number_values, last_or, IsLastText, Means, OfKeyValue, OfAny, OfStatus, OfRequest, OfResponse}
use Rattle.ttrpc_proto.proofs.Means.{both_apart, both_together, StepsByParts, seen_apart, seen_together, AreTexts, text_means, text_again, bytes_mean, bytes_fold, number_means, number_fold}
use Rattle.ttrpc_proto.proofs.Lists.{ReadsTo, reads_mean, mean_reads, AreEach-map, list_means, list_fold, list_more, IsEven, joined_means, joined_fold, AreJoined-map}

-- ---- a chain of members, as pairs

chain_2 : {A B M : Type 0} (make : A × B → M) (a : Option A) (b : Option B) → (a >>= λ x. b >>= λ y. Some (make (x, y))) ≡ option_map make (a >>= λ x. b >>= λ y. Some (x, y))
chain_2 make None b = refl
chain_2 make (Some x) None = refl
chain_2 make (Some x) (Some y) = refl

chain_3 : {A B C M : Type 0} (make : A × (B × C) → M) (a : Option A) (b : Option B) (c : Option C)
    → (a >>= λ x. b >>= λ y. c >>= λ z. Some (make (x, (y, z)))) ≡ option_map make (a >>= λ x. (b >>= λ y. c >>= λ z. Some (y, z)) >>= λ w. Some (x, w))
chain_3 make None b c = refl
chain_3 make (Some x) None c = refl
chain_3 make (Some x) (Some y) None = refl
chain_3 make (Some x) (Some y) (Some z) = refl

chain_5 : {A B C D E M : Type 0} (make : A × (B × (C × (D × E))) → M) (a : Option A) (b : Option B) (c : Option C) (d : Option D) (e : Option E)
    → (a >>= λ x. b >>= λ y. c >>= λ z. d >>= λ u. e >>= λ v. Some (make (x, (y, (z, (u, v))))))
    ≡ option_map make (a >>= λ x. (b >>= λ y. (c >>= λ z. (d >>= λ u. e >>= λ v. Some (u, v)) >>= λ w. Some (z, w)) >>= λ w. Some (y, w)) >>= λ w. Some (x, w))
chain_5 make None b c d e = refl
chain_5 make (Some x) None c d e = refl
chain_5 make (Some x) (Some y) None d e = refl
chain_5 make (Some x) (Some y) (Some z) None e = refl
chain_5 make (Some x) (Some y) (Some z) (Some u) None = refl
chain_5 make (Some x) (Some y) (Some z) (Some u) (Some v) = refl

texts : (bs : List (List ℕ)) (x : List ℕ) → AreTexts [] x bs → IsLastText bs x
texts bs x h = record { texts = h.texts; last = h.last }

back_to_texts : (bs : List (List ℕ)) (x : List ℕ) → IsLastText bs x → AreTexts [] x bs
back_to_texts bs x h = record { texts = h.texts; last = h.last }

-- ---- KeyValue

abbrev key_value_parts : KeyValue → List ℕ × List ℕ
key_value_parts m = (m.key, m.value)

abbrev key_value_made : List ℕ × List ℕ → KeyValue
key_value_made p = record { key = p.0; value = p.1 }

key_value_seen : StepsByParts key_value_step key_value_parts key_value_made (both (delimited_in 1 last_text) (delimited_in 2 last_text))
key_value_seen = record {
  steps = λ m f. chain_2 key_value_made (delimited_in 1 last_text m.key f) (delimited_in 2 last_text m.value f);
  made = λ m. refl;
  parted = λ p. refl;
}

pub key_value_apart : (fs : List Field) (m : KeyValue) → folded key_value_step empty_key_value fs ≡ Some m → OfKeyValue fs m
key_value_apart fs m e =
    let b = both_apart (delimited_in 1 last_text) (delimited_in 2 last_text) [] m.key [] m.value fs (seen_apart key_value_step key_value_parts key_value_made _ key_value_seen fs empty_key_value m e) in
    record { key = texts _ _ (text_means 1 [] m.key fs b.first); value = texts _ _ (text_means 2 [] m.value fs b.second) }

pub key_value_together : (fs : List Field) (m : KeyValue) → OfKeyValue fs m → folded key_value_step empty_key_value fs ≡ Some m
key_value_together fs m h =
    seen_together key_value_step key_value_parts key_value_made _ key_value_seen fs empty_key_value m
    (both_together (delimited_in 1 last_text) (delimited_in 2 last_text) [] m.key [] m.value fs (record { first = text_again 1 [] m.key fs (back_to_texts _ _ h.key); second = text_again 2 [] m.value fs (back_to_texts _ _ h.value) }))

-- ---- Any

abbrev any_parts : Any → List ℕ × List ℕ
any_parts m = (m.type_url, m.value)

abbrev any_made : List ℕ × List ℕ → Any
any_made p = record { type_url = p.0; value = p.1 }

any_seen : StepsByParts any_step any_parts any_made (both (delimited_in 1 last_text) (delimited_in 2 last_bytes))
any_seen = record {
  steps = λ m f. chain_2 any_made (delimited_in 1 last_text m.type_url f) (delimited_in 2 last_bytes m.value f);
  made = λ m. refl;
  parted = λ p. refl;
}

pub any_apart : (fs : List Field) (m : Any) → folded any_step empty_any fs ≡ Some m → OfAny fs m
any_apart fs m e =
    let b = both_apart (delimited_in 1 last_text) (delimited_in 2 last_bytes) [] m.type_url [] m.value fs (seen_apart any_step any_parts any_made _ any_seen fs empty_any m e) in
    record { type_url = texts _ _ (text_means 1 [] m.type_url fs b.first); value = bytes_mean 2 [] m.value fs b.second }

pub any_together : (fs : List Field) (m : Any) → OfAny fs m → folded any_step empty_any fs ≡ Some m
any_together fs m h =
    seen_together any_step any_parts any_made _ any_seen fs empty_any m
    (both_together (delimited_in 1 last_text) (delimited_in 2 last_bytes) [] m.type_url [] m.value fs (record { first = text_again 1 [] m.type_url fs (back_to_texts _ _ h.type_url); second = bytes_fold 2 [] m.value fs h.value }))

-- ---- Status

abbrev code_in : ℤ → Field → Option ℤ
code_in = number_in 1 (last_number int32_of)

abbrev message_in : List ℕ → Field → Option (List ℕ)
message_in = delimited_in 2 last_text

abbrev details_in : List Any → Field → Option (List Any)
details_in = delimited_in 3 (one_more any_step empty_any)

abbrev status_parts : Status → ℤ × (List ℕ × List Any)
status_parts m = (m.code, (m.message, m.details))

abbrev status_made : ℤ × (List ℕ × List Any) → Status
status_made p = record { code = p.0; message = p.1.0; details = p.1.1 }

status_seen : StepsByParts status_step status_parts status_made (both code_in (both message_in details_in))
status_seen = record {
  steps = λ m f. chain_3 status_made (code_in m.code f) (message_in m.message f) (details_in m.details f);
  made = λ m. refl;
  parted = λ p. refl;
}

pub status_apart : (fs : List Field) (m : Status) → folded status_step empty_status fs ≡ Some m → OfStatus fs m
status_apart fs m e =
    let b = both_apart code_in (both message_in details_in) _ m.code _ (m.message, m.details) fs (seen_apart status_step status_parts status_made _ status_seen fs empty_status m e) in
    let c = both_apart message_in details_in _ m.message _ m.details fs b.second in
    record {
      code = number_means 1 int32_of _ m.code fs b.first;
      message = texts _ _ (text_means 2 [] m.message fs c.first);
      details = AreEach-map (ReadsTo any_step empty_any) (Means OfAny) (reads_mean any_step empty_any OfAny any_apart) (delimited_values 3 fs) m.details (list_means 3 any_step empty_any m.details fs c.second);
    }

pub status_together : (fs : List Field) (m : Status) → OfStatus fs m → folded status_step empty_status fs ≡ Some m
status_together fs m h =
    seen_together status_step status_parts status_made _ status_seen fs empty_status m
    (both_together code_in (both message_in details_in) _ m.code _ (m.message, m.details) fs (record {
      first = number_fold 1 int32_of _ m.code fs h.code;
      second = both_together message_in details_in _ m.message _ m.details fs (record {
        first = text_again 2 [] m.message fs (back_to_texts _ _ h.message);
        second = list_fold 3 any_step empty_any [] m.details fs (AreEach-map (Means OfAny) (ReadsTo any_step empty_any) (mean_reads any_step empty_any OfAny any_together) (delimited_values 3 fs) m.details h.details);
      });
    }))

-- whether fields are refused doesn't depend on the status so far
status_fold_even : (m n x : Status) (fs : List Field) → folded status_step m fs ≡ Some x → (y : Status) × (folded status_step n fs ≡ Some y)
status_fold_even m n x fs e =
    let b = both_apart code_in (both message_in details_in) m.code x.code (m.message, m.details) (x.message, x.details) fs (seen_apart status_step status_parts status_made _ status_seen fs m x e) in
    let c = both_apart message_in details_in m.message x.message m.details x.details fs b.second in
    let t = text_means 2 m.message x.message fs c.first in
    let l = list_more 3 any_step empty_any m.details x.details fs c.second in
    let y : Status = record { code = last_or n.code (map int32_of (number_values 1 fs)); message = last_or n.message (delimited_values 2 fs); details = n.details ++ l.0 } in (
      y,
      seen_together status_step status_parts status_made _ status_seen fs n y
          (both_together code_in (both message_in details_in) n.code y.code (n.message, n.details) (y.message, y.details) fs (record {
            first = number_fold 1 int32_of n.code y.code fs refl;
            second = both_together message_in details_in n.message y.message n.details y.details fs (record {
              first = text_again 2 n.message y.message fs (record { texts = t.texts; last = refl });
              second = list_fold 3 any_step empty_any n.details l.0 fs l.1;
            });
          })),
    )

status_even : IsEven status_step
unfolding read_from
status_even = record {
  evenly = λ m n x bytes e.
      let s = bound (fields_of bytes) (folded status_step m) x e in
      let r = status_fold_even m n x s.0 s.2 in
      (r.0, ap (λ o. o >>= folded status_step n) s.1 ∙ r.1);
}

-- ---- Request

abbrev service_in : List ℕ → Field → Option (List ℕ)
service_in = delimited_in 1 last_text

abbrev method_in : List ℕ → Field → Option (List ℕ)
method_in = delimited_in 2 last_text

abbrev content_in : List ℕ → Field → Option (List ℕ)
content_in = delimited_in 3 last_bytes

abbrev timeout_in : ℤ → Field → Option ℤ
timeout_in = number_in 4 (last_number int64_of)

abbrev metadata_in : List KeyValue → Field → Option (List KeyValue)
metadata_in = delimited_in 5 (one_more key_value_step empty_key_value)

abbrev request_parts : Request → List ℕ × (List ℕ × (List ℕ × (ℤ × List KeyValue)))
request_parts m = (m.service, (m.method, (m.payload, (m.timeout_nano, m.metadata))))

abbrev request_made : List ℕ × (List ℕ × (List ℕ × (ℤ × List KeyValue))) → Request
request_made p = record { service = p.0; method = p.1.0; payload = p.1.1.0; timeout_nano = p.1.1.1.0; metadata = p.1.1.1.1 }

abbrev request_both : List ℕ × (List ℕ × (List ℕ × (ℤ × List KeyValue))) → Field → Option (List ℕ × (List ℕ × (List ℕ × (ℤ × List KeyValue))))
request_both = both service_in (both method_in (both content_in (both timeout_in metadata_in)))

request_seen : StepsByParts request_step request_parts request_made request_both
request_seen = record {
  steps = λ m f. chain_5 request_made (service_in m.service f) (method_in m.method f) (content_in m.payload f) (timeout_in m.timeout_nano f) (metadata_in m.metadata f);
  made = λ m. refl;
  parted = λ p. refl;
}

pub request_apart : (fs : List Field) (m : Request) → folded request_step empty_request fs ≡ Some m → OfRequest fs m
request_apart fs m e =
    let a = both_apart service_in (both method_in (both content_in (both timeout_in metadata_in))) _ m.service _ (m.method, (m.payload, (m.timeout_nano, m.metadata))) fs (seen_apart request_step request_parts request_made _ request_seen fs empty_request m e) in
    let b = both_apart method_in (both content_in (both timeout_in metadata_in)) _ m.method _ (m.payload, (m.timeout_nano, m.metadata)) fs a.second in
    let c = both_apart content_in (both timeout_in metadata_in) _ m.payload _ (m.timeout_nano, m.metadata) fs b.second in
    let d = both_apart timeout_in metadata_in _ m.timeout_nano _ m.metadata fs c.second in
    record {
      service = texts _ _ (text_means 1 [] m.service fs a.first);
      method = texts _ _ (text_means 2 [] m.method fs b.first);
      payload = bytes_mean 3 [] m.payload fs c.first;
      timeout_nano = number_means 4 int64_of _ m.timeout_nano fs d.first;
      metadata = AreEach-map (ReadsTo key_value_step empty_key_value) (Means OfKeyValue) (reads_mean key_value_step empty_key_value OfKeyValue key_value_apart) (delimited_values 5 fs) m.metadata (list_means 5 key_value_step empty_key_value m.metadata fs d.second);
    }

pub request_together : (fs : List Field) (m : Request) → OfRequest fs m → folded request_step empty_request fs ≡ Some m
request_together fs m h =
    seen_together request_step request_parts request_made _ request_seen fs empty_request m
    (both_together service_in (both method_in (both content_in (both timeout_in metadata_in))) _ m.service _ (m.method, (m.payload, (m.timeout_nano, m.metadata))) fs (record {
      first = text_again 1 [] m.service fs (back_to_texts _ _ h.service);
      second = both_together method_in (both content_in (both timeout_in metadata_in)) _ m.method _ (m.payload, (m.timeout_nano, m.metadata)) fs (record {
        first = text_again 2 [] m.method fs (back_to_texts _ _ h.method);
        second = both_together content_in (both timeout_in metadata_in) _ m.payload _ (m.timeout_nano, m.metadata) fs (record {
          first = bytes_fold 3 [] m.payload fs h.payload;
          second = both_together timeout_in metadata_in _ m.timeout_nano _ m.metadata fs (record {
            first = number_fold 4 int64_of _ m.timeout_nano fs h.timeout_nano;
            second = list_fold 5 key_value_step empty_key_value [] m.metadata fs (AreEach-map (Means OfKeyValue) (ReadsTo key_value_step empty_key_value) (mean_reads key_value_step empty_key_value OfKeyValue key_value_together) (delimited_values 5 fs) m.metadata h.metadata);
          });
        });
      });
    }))

-- ---- Response

abbrev joined_in : Option Status → Field → Option (Option Status)
joined_in = delimited_in 1 (joined status_step empty_status)

abbrev response_parts : Response → Option Status × List ℕ
response_parts m = (m.status, m.payload)

abbrev response_made : Option Status × List ℕ → Response
response_made p = record { status = p.0; payload = p.1 }

response_seen : StepsByParts response_step response_parts response_made (both joined_in (delimited_in 2 last_bytes))
response_seen = record {
  steps = λ m f. chain_2 response_made (joined_in m.status f) (delimited_in 2 last_bytes m.payload f);
  made = λ m. refl;
  parted = λ p. refl;
}

pub response_apart : (fs : List Field) (m : Response) → folded response_step empty_response fs ≡ Some m → OfResponse fs m
response_apart fs m e =
    let b = both_apart joined_in (delimited_in 2 last_bytes) _ m.status _ m.payload fs (seen_apart response_step response_parts response_made _ response_seen fs empty_response m e) in
    record {
      status = AreJoined-map (ReadsTo status_step empty_status) (Means OfStatus) (reads_mean status_step empty_status OfStatus status_apart) (delimited_values 1 fs) m.status (joined_means 1 status_step empty_status status_even m.status fs b.first);
      payload = bytes_mean 2 [] m.payload fs b.second;
    }

pub response_together : (fs : List Field) (m : Response) → OfResponse fs m → folded response_step empty_response fs ≡ Some m
response_together fs m h =
    seen_together response_step response_parts response_made _ response_seen fs empty_response m
    (both_together joined_in (delimited_in 2 last_bytes) _ m.status _ m.payload fs (record {
      first = joined_fold 1 status_step empty_status status_even m.status fs (AreJoined-map (Means OfStatus) (ReadsTo status_step empty_status) (mean_reads status_step empty_status OfStatus status_together) (delimited_values 1 fs) m.status h.status);
      second = bytes_fold 2 [] m.payload fs h.payload;
    }))
