mod Acts
mod Visits
mod Calls
mod Takes
mod Results
mod Goes
